-- The reduction on chains. The halves of a sum are sums, so each row does to the two chains in hand what it does to the
-- bytes: at a row that is held and whose slot is taken, the slot's chains are added.
use Rattle.std.specs.Prelude.{ℕ, suc, ◌*◌, ◌≤◌, ◌<◌, ◌≡◌, refl, Bool, true, false, List, length, Option}
use Rattle.std.proofs.Common.{sym, ap, ◌∙◌, subst, subst₂, arith}
use Rattle.chains.specs.Chain.{Chain, ◌⊕◌, empty, only}
use Rattle.columns.specs.ColumnLaws.{length-xor}
use Rattle.columns.specs.Slot.{room_of, chain_r, chain_v, slot, taken_at}
use Rattle.columns.specs.SlotLaws.{length-slot, chain_r-xor, chain_v-xor}
use Rattle.columns.specs.Reduce.{held_at, red_row, red_bytes, Settles, Ends}
use Rattle.columns.specs.Reduce.{slot_rows, slot_columns, taken_only, kept_rows, kept_columns, Pivots}
use Rattle.columns.specs.ReduceLaws.{row-add, row-not-held, row-not-taken, unstuck-taken}
use Rattle.columns.specs.ReduceLaws.{stuck-held, stuck-not-taken, by_rows, by-settling}

-- ---- what counts of a slot: all that it holds, where it is taken, and else nothing

module _ (taken : List Bool) (r : ℕ) (W : ℕ → Chain) where
  pub kept_full : taken_at taken r ≡ true → taken_only taken W r ≡ W r
  kept_full e = ap (λ (b : Bool). only b (W r)) e

  pub kept-vacant : taken_at taken r ≡ false → taken_only taken W r ≡ empty
  kept-vacant e = ap (λ (b : Bool). only b (W r)) e

module _ (h : ℕ) (work : List ℕ) (taken : List Bool) (room : room_of h ≤ length work) where
  -- a slot that is not taken counts as vacant
  out-of-kept : (r : ℕ) → taken_at taken r ≡ false → kept_rows h work taken r r ≡ false
  out-of-kept r e = ap (λ (c : Chain). c r) (kept-vacant taken r (slot_rows h work) e)

  -- ---- what is kept by the rows: P speaks of the rows that are left and of the two chains in hand

  module _ (pivots : Pivots h work taken) (P : ℕ → Chain → Chain → Type 0) (n : ℕ) (low : n ≤ 8 * h)
      (skip : (r : ℕ) (c v : Chain) → r < n → P (suc r) c v → c r ≡ false → P r c v)
      (add : (r : ℕ) (c v : Chain) → r < n → P (suc r) c v → c r ≡ true → kept_rows h work taken r r ≡ true
      → P r (c ⊕ kept_rows h work taken r) (v ⊕ kept_columns h work taken r)) where
    -- P of the chains that a pair of columns holds
    abbrev In : ℕ → List ℕ → Type 0
    In r c = (length c ≡ 2 * h) × P r (chain_r h c) (chain_v h c)

    in_row : (r : ℕ) (c : List ℕ) → r < n → In (suc r) c → (held_at h r c ≡ true → taken_at taken r ≡ true)
        → In r (red_row h work taken r c)
    in_row r c l p free = go (held_at h r c) refl
      where
        sized : length (slot h work r) ≡ 2 * h
        sized = length-slot h work r (omega arith) room

        go : (b : Bool) → held_at h r c ≡ b → In r (red_row h work taken r c)
        go false e = subst (In r) (sym (row-not-held h work taken r c e)) (p.0, skip r _ _ l p.1 e)
        go true e = subst (In r) (sym (row-add h work taken r c e (free e))) (
          length-xor c (slot h work r) ∙ p.0,
          subst₂ (P r)
              (ap (λ (x : Chain). chain_r h c ⊕ x) (kept_full taken r (slot_rows h work) (free e))
              ∙ sym (chain_r-xor h c (slot h work r) p.0 sized))
              (ap (λ (x : Chain). chain_v h c ⊕ x) (kept_full taken r (slot_columns h work) (free e))
              ∙ sym (chain_v-xor h c (slot h work r) p.0 sized))
              (add r _ _ l p.1 e (ap (λ (c : Chain). c r) (kept_full taken r (slot_rows h work) (free e)) ∙ pivots r (free e))),
        )

    -- the reduction that stops where it is stuck
    pub settle-chains : (cur : List ℕ) (answer : Option ℕ) (left : List ℕ) → Settles h work taken n cur answer left
        → length cur ≡ 2 * h → P n (chain_r h cur) (chain_v h cur)
        → Ends P (kept_rows h work taken) answer (chain_r h left) (chain_v h left)
    settle-chains cur answer left s whole top =
        subst₂ (λ (a : Option ℕ) (l : List ℕ). Ends P (kept_rows h work taken) a (chain_r h l) (chain_v h l))
        (sym s.where-stuck) (sym s.what-left)
        (by-settling h work taken In (λ t. Ends P (kept_rows h work taken) t.at (chain_r h t.cur) (chain_v h t.cur)) n cur
        (λ r c l p q. in_row r c l p (unstuck-taken h work taken r c q))
        (λ r c l p q. (p.1, stuck-held h work taken r c q, out-of-kept r (stuck-not-taken h work taken r c q)))
        (λ c p. p.1)
        (whole, top))

    -- the full reduction, which also goes past the rows where it is stuck
    pub red-chains : ((r : ℕ) (c v : Chain) → r < n → P (suc r) c v → c r ≡ true → kept_rows h work taken r r ≡ false → P r c v)
        → (cur : List ℕ) → length cur ≡ 2 * h → P n (chain_r h cur) (chain_v h cur)
        → P 0 (chain_r h (red_bytes h work taken n cur)) (chain_v h (red_bytes h work taken n cur))
    red-chains past cur whole top = (by_rows h work taken In n cur row (whole, top)).1
      where
        row : (r : ℕ) (c : List ℕ) → r < n → In (suc r) c → In r (red_row h work taken r c)
        row r c l p = go (taken_at taken r) refl (held_at h r c) refl
          where
            go : (b : Bool) → taken_at taken r ≡ b → (a : Bool) → held_at h r c ≡ a → In r (red_row h work taken r c)
            go true e a f = in_row r c l p (λ q. e)
            go false e true f = subst (In r) (sym (row-not-taken h work taken r c e)) (p.0, past r _ _ l p.1 f (out-of-kept r e))
            go false e false f = subst (In r) (sym (row-not-taken h work taken r c e)) (p.0, skip r _ _ l p.1 f)
