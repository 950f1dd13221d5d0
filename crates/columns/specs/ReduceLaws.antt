-- Laws of the reduction. A row either leaves the pair in hand as it is or adds a slot to it, so what holds at the top
-- and is kept by each row holds at the bottom.
use Prim.Native.Nat.{ℕ, zero, suc, ◌≤◌, ◌<◌}
use Rattle.std.specs.Prelude.{◌≡◌, Bool, ◌&&◌, cond, List, Option, Some, None}
use Rattle.std.proofs.Math.Path.{refl, sym, ap, subst}
use Rattle.std.proofs.Common.{◌∙◌, arith}
use Rattle.std.proofs.Math.Bool.{true, false, not}
use Rattle.std.proofs.lemmas.Bool.{false≢true}
use Rattle.std.proofs.Math.Decide.{le_ind}
use Rattle.std.proofs.Math.ListN.{length}
use Rattle.columns.specs.Column.{xor_bytes}
use Rattle.columns.specs.ColumnLaws.{length-xor}
use Rattle.chains.specs.Chain.{Under}
use Rattle.columns.specs.Slot.{chain_r, slot, taken_at}
use Rattle.columns.specs.Reduce.{held_at, red_row, red_bytes, stuck_at, Settled, settled, rows_left, Inserts}

-- ---- one row

and-false : (b : Bool) → b && false ≡ false
and-false true = refl
and-false false = refl

module _ (h : ℕ) (work : List ℕ) (taken : List Bool) (r : ℕ) (cur : List ℕ) where
  pub row-add : held_at h r cur ≡ true → taken_at taken r ≡ true → red_row h work taken r cur ≡ xor_bytes cur (slot h work r)
  unfolding red_row
  row-add p q = rw (p, q) refl

  pub row-not-held : held_at h r cur ≡ false → red_row h work taken r cur ≡ cur
  unfolding red_row
  row-not-held p = rw p refl

  pub row-not-taken : taken_at taken r ≡ false → red_row h work taken r cur ≡ cur
  unfolding red_row
  row-not-taken q = rw (q, and-false) refl

  pub stuck : held_at h r cur ≡ true → taken_at taken r ≡ false → stuck_at h taken r cur ≡ true
  unfolding stuck_at
  stuck p q = rw (p, q) refl

  pub not_stuck : taken_at taken r ≡ true → stuck_at h taken r cur ≡ false
  unfolding stuck_at
  not_stuck q = rw (q, and-false) refl

  pub not-stuck-not-held : held_at h r cur ≡ false → stuck_at h taken r cur ≡ false
  unfolding stuck_at
  not-stuck-not-held p = rw p refl

  -- what it means to be stuck
  pub stuck-held : stuck_at h taken r cur ≡ true → held_at h r cur ≡ true
  unfolding stuck_at
  stuck-held e = both (held_at h r cur) (not (taken_at taken r)) e
    where
      both : (a b : Bool) → a && b ≡ true → a ≡ true
      both true b e = refl
      both false b e = e

  pub stuck-not-taken : stuck_at h taken r cur ≡ true → taken_at taken r ≡ false
  unfolding stuck_at
  stuck-not-taken e = both (held_at h r cur) (taken_at taken r) e
    where
      both : (a b : Bool) → a && not b ≡ true → b ≡ false
      both true true e = sym e
      both true false e = refl
      both false b e = absurd (false≢true e)

  -- a row that is held and not stuck has its slot taken
  pub unstuck-taken : stuck_at h taken r cur ≡ false → held_at h r cur ≡ true → taken_at taken r ≡ true
  unfolding stuck_at
  unstuck-taken e p = other (held_at h r cur) (taken_at taken r) e p
    where
      other : (a b : Bool) → a && not b ≡ false → a ≡ true → b ≡ true
      other true true e p = refl
      other true false e p = absurd (false≢true (sym e))
      other false b e p = absurd (false≢true p)

  -- a stuck row is passed over by the full reduction
  pub row-stuck : stuck_at h taken r cur ≡ true → red_row h work taken r cur ≡ cur
  row-stuck e = row-not-taken (stuck-not-taken e)

  -- a row keeps the length
  pub length-row : length (red_row h work taken r cur) ≡ length cur
  unfolding red_row
  length-row = go (held_at h r cur && taken_at taken r)
    where
      go : (b : Bool) → length (cond b (xor_bytes cur (slot h work r)) cur) ≡ length cur
      go true = length-xor cur (slot h work r)
      go false = refl

-- ---- all rows

module _ (h : ℕ) (work : List ℕ) (taken : List Bool) where
  -- what each row keeps, the reduction keeps
  pub by_rows : (P : ℕ → List ℕ → Type 0) (n : ℕ) (cur : List ℕ)
      → ((r : ℕ) (c : List ℕ) → r < n → P (suc r) c → P r (red_row h work taken r c)) → P n cur → P 0 (red_bytes h work taken n cur)
  unfolding red_bytes
  by_rows P zero cur step top = top
  by_rows P (suc n) cur step top =
      by_rows P n (red_row h work taken n cur) (λ r c l. step r c (omega arith)) (step n cur (omega arith) top)

  -- ---- up to the first row that is stuck

  pub settled-stuck : (r : ℕ) (cur : List ℕ) → stuck_at h taken r cur ≡ true
      → settled h work taken (suc r) cur ≡ record { at = Some r; cur = cur }
  unfolding settled
  settled-stuck r cur e = rw e refl

  pub settled_on : (r : ℕ) (cur : List ℕ) → stuck_at h taken r cur ≡ false
      → settled h work taken (suc r) cur ≡ settled h work taken r (red_row h work taken r cur)
  unfolding settled
  settled_on r cur e = rw e refl

  pub settled-skip : (k n : ℕ) (cur : List ℕ) → k ≤ n → ((j : ℕ) → k ≤ j → j < n → held_at h j cur ≡ false)
      → settled h work taken n cur ≡ settled h work taken k cur
  settled-skip k n cur l none =
      le_ind (λ (m : ℕ). ((j : ℕ) → k ≤ j → j < m → held_at h j cur ≡ false) → settled h work taken m cur ≡ settled h work taken k cur)
      (λ q. refl)
      (λ m l ih q.
      settled_on m cur (not-stuck-not-held h work taken m cur (q m l (omega arith)))
      ∙ ap (settled h work taken m) (row-not-held h work taken m cur (q m l (omega arith)))
      ∙ ih (λ j a b. q j a (omega arith)))
      n l none

  -- so an insertion that begins above the highest row that is held is one that begins at any row higher up
  pub inserts-from : {top n : ℕ} {cur left after : List ℕ} {taken_after : List Bool} {answer : Option ℕ} → top ≤ n
      → Under top (chain_r h cur) → Inserts h work taken top cur answer left after taken_after → Inserts h work taken n cur answer left after taken_after
  inserts-from {top} {n} {cur} le low s =
      let same : settled h work taken n cur ≡ settled h work taken top cur = settled-skip top n cur le (λ j from below. low j from) in
      record {
        settles = record {
          where-stuck = s.settles.where-stuck ∙ sym (ap (λ (t : Settled). t.at) same);
          what-left = s.settles.what-left ∙ sym (ap (λ (t : Settled). t.cur) same);
        };
        stored = s.stored;
        marked = s.marked;
      }

  -- what each row keeps holds where the reduction settles: stuck at a row, or through with all of them
  pub by-settling : (P : ℕ → List ℕ → Type 0) (Q : Settled → Type 0) (n : ℕ) (cur : List ℕ)
      → ((r : ℕ) (c : List ℕ) → r < n → P (suc r) c → stuck_at h taken r c ≡ false → P r (red_row h work taken r c))
      → ((r : ℕ) (c : List ℕ) → r < n → P (suc r) c → stuck_at h taken r c ≡ true → Q (record { at = Some r; cur = c }))
      → ((c : List ℕ) → P 0 c → Q (record { at = None; cur = c })) → P n cur → Q (settled h work taken n cur)
  unfolding settled
  by-settling P Q zero cur step stop end top = end cur top
  by-settling P Q (suc n) cur step stop end top =
      go (stuck_at h taken n cur) refl
      (by-settling P Q n (red_row h work taken n cur) (λ r c l. step r c (omega arith)) (λ r c l. stop r c (omega arith)) end)
    where
      go : (b : Bool) → stuck_at h taken n cur ≡ b
          → (P n (red_row h work taken n cur) → Q (settled h work taken n (red_row h work taken n cur)))
          → Q (settled h work taken (suc n) cur)
      go true e rec = subst Q (sym (settled-stuck n cur e)) (stop n cur (omega arith) top e)
      go false e rec = subst Q (sym (settled_on n cur e)) (rec (step n cur (omega arith) top e))

  -- the full reduction goes on from where it settled
  pub settled-red : (n : ℕ) (cur : List ℕ)
      → red_bytes h work taken n cur ≡ red_bytes h work taken (rows_left (settled h work taken n cur).at) (settled h work taken n cur).cur
  unfolding red_bytes
  settled-red n cur =
      by-settling (λ r c. red_bytes h work taken n cur ≡ red_bytes h work taken r c)
      (λ s. red_bytes h work taken n cur ≡ red_bytes h work taken (rows_left s.at) s.cur) n cur
      (λ r c l e q. e)
      (λ r c l e q. e ∙ ap (red_bytes h work taken r) (row-stuck h work taken r c q))
      (λ c e. e)
      refl

  pub length-settled : (n : ℕ) (cur : List ℕ) → length (settled h work taken n cur).cur ≡ length cur
  length-settled n cur =
      by-settling (λ r c. length c ≡ length cur) (λ s. length s.cur ≡ length cur) n cur
      (λ r c l e q. length-row h work taken r c ∙ e) (λ r c l e q. e) (λ c e. e) refl

  -- where it is stuck
  pub settled_at : (n : ℕ) (cur : List ℕ) (r : ℕ) → (settled h work taken n cur).at ≡ Some r
      → (r < n) × (stuck_at h taken r (settled h work taken n cur).cur ≡ true)
  settled_at n cur r =
      by-settling (λ m c. Unit {0}) (λ s. s.at ≡ Some r → (r < n) × (stuck_at h taken r s.cur ≡ true)) n cur
      (λ m c l u q. tt)
      (λ m c l u q e. let same : m ≡ r = cc in (omega arith, subst (λ (k : ℕ). stuck_at h taken k c ≡ true) same q))
      (λ c u e. absurd (let z : ◌≡◌ {A = ℕ} 0 1 = cc in omega arith))
      tt
