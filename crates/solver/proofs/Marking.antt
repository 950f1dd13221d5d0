-- The loop over the marks: each mark that is on turns its rank over, in a chain that does not hold it yet.
use Prim.Native.Nat.{ℕ, ◌+◌, ◌*◌, ◌≤◌, ◌<◌}
use native.Mathlib.Omega.{arith}
use native.Mathlib.Decide.{dec_lt, ℕ_discrete}
use mathlib.Core.Path.{◌≡◌, refl, sym, ap, ap₂, ◌∙◌, subst, fun_ext}
use mathlib.Core.Bool.{Bool, true, false}
use mathlib.Core.List.{List}
use lib.ListN.{length, get_or, take, replicate, length-take, get_or-eq_default}
use lib.Seq.{get_or-take}
use Rattle.chains.specs.Chain.{differ, ◌⊕◌, empty, unit, only}
use Rattle.chains.specs.Sum.{differ-false, sum-empty}
use Rattle.chains.specs.Boundary.{unit-here, unit-else}
use Rattle.columns.specs.Column.{flipped}
use Rattle.columns.specs.ColumnLaws.{length-flipped}
use Rattle.columns.specs.Slot.{chain_r, chain_v}
use Rattle.columns.specs.PairLaws.{flipped-r, flipped-r-keeps, half_r-zeros, half_v-zeros}
use Rattle.solver.specs.Columns.{marked_chain, Marked}
use Rattle.lists.specs.declared.Marks.{Marks}

-- a mark among the first m is a mark
pub mark-at : (m i : ℕ) (on : List Bool) → i < length (take m on) → get_or (take m on) i false ≡ get_or on i false
mark-at m i on l = get_or-take m on i false (omega (arith, length-take m on))

module _ (marks : Marks) where
  -- a rank of the list is marked where its mark is on, and no other is
  pub marked-below : (m i : ℕ) → i < m → marked_chain m marks i ≡ get_or marks.on i false
  marked-below m i lt = get_or-take m marks.on i false lt

  pub marked-past : (m i : ℕ) → m ≤ i → marked_chain m marks i ≡ false
  marked-past m i ge = get_or-eq_default (take m marks.on) false (omega (arith, length-take m marks.on))

  -- one rank more
  marked_next : (i : ℕ) → marked_chain (i + 1) marks ≡ marked_chain i marks ⊕ only (get_or marks.on i false) (unit i)
  marked_next i = fun_ext λ j. go j (dec_lt j i) (ℕ_discrete i j) (get_or marks.on i false) refl
    where
      else-false : (b : Bool) (j : ℕ) → (i ≡ j → ⊥) → only b (unit i) j ≡ false
      else-false true j ne = unit-else i j ne
      else-false false j ne = refl

      here-same : (b : Bool) → only b (unit i) i ≡ b
      here-same true = unit-here i
      here-same false = refl

      go : (j : ℕ) → Dec (j < i) → Dec (i ≡ j) → (b : Bool) → get_or marks.on i false ≡ b
          → marked_chain (i + 1) marks j ≡ differ (marked_chain i marks j) (only b (unit i) j)
      go j (yes lt) same b e =
          marked-below (i + 1) j (omega arith)
          ∙ sym (marked-below i j lt)
          ∙ sym (differ-false _)
          ∙ ap (differ (marked_chain i marks j)) (sym (else-false b j (λ e. omega arith)))
      go j (no ge) (yes same) b e =
          ap (marked_chain (i + 1) marks) (sym same)
          ∙ marked-below (i + 1) i (omega arith)
          ∙ e
          ∙ sym (here-same b)
          ∙ ap (only b (unit i)) same
          ∙ ap (λ (p : Bool). differ p (only b (unit i) j)) (sym (marked-past i j (omega arith)))
      go j (no ge) (no ne) b e =
          marked-past (i + 1) j (omega arith)
          ∙ ap₂ differ (sym (marked-past i j (omega arith))) (sym (else-false b j ne))

-- the first i marks were gone through
pub record Marking (marks : Marks) (i : ℕ) (start cur : List ℕ) : Type 0 where
  pub long : length cur ≡ length start
  pub chain : (h : ℕ) → length start ≡ 2 * h → i ≤ 8 * h → chain_r h cur ≡ marked_chain i marks
  pub columns : (h : ℕ) → length start ≡ 2 * h → i ≤ 8 * h → chain_v h cur ≡ empty

module _ (marks : Marks) where
  pub marking-start : (n : ℕ) (cur : List ℕ) → cur ≡ replicate n 0 → Marking marks 0 cur cur
  marking-start n cur e = record {
    long = refl;
    chain = λ h whole fits. ap (chain_r h) e ∙ half_r-zeros h n ∙ fun_ext λ j. sym (marked-past marks 0 j (omega arith));
    columns = λ h whole fits. ap (chain_v h) e ∙ half_v-zeros h n;
  }

  module _ {i : ℕ} {start cur : List ℕ} (a : Marking marks i start cur) where
    pub marking-skip : {after : List ℕ} → get_or marks.on i false ≡ false → after ≡ cur → Marking marks (i + 1) start after
    marking-skip {after} out same = record {
      long = ap length same ∙ a.long;
      chain = λ h whole fits.
          ap (chain_r h) same
          ∙ a.chain h whole (omega arith)
          ∙ sym (marked_next marks i ∙ ap (λ b. marked_chain i marks ⊕ only b (unit i)) out ∙ sum-empty (marked_chain i marks));
      columns = λ h whole fits. ap (chain_v h) same ∙ a.columns h whole (omega arith);
    }

    pub marking-flip : {after : List ℕ} → get_or marks.on i false ≡ true → after ≡ flipped cur i
        → Marking marks (i + 1) start after
    marking-flip {after} on put = record {
      long = ap length put ∙ length-flipped cur i ∙ a.long;
      chain = λ h whole fits.
          ap (chain_r h) put
          ∙ flipped-r h cur (a.long ∙ whole) i (omega arith)
          ∙ ap (λ c. c ⊕ unit i) (a.chain h whole (omega arith))
          ∙ sym (marked_next marks i ∙ ap (λ b. marked_chain i marks ⊕ only b (unit i)) on);
      columns = λ h whole fits.
          ap (chain_v h) put ∙ flipped-r-keeps h cur (a.long ∙ whole) i (omega arith) ∙ a.columns h whole (omega arith);
    }

    -- `first` is what was lent, as long as what the loop began with
    pub marking-end : {m : ℕ} {first : List ℕ} → i ≤ m → m ≤ i → length start ≡ length first → Marked m marks first cur
    marking-end {m} {first} le ge same =
        let e : i ≡ m = omega arith in
        subst (λ k. Marked k marks first cur) e
        (record { chain = λ h whole. a.chain h (same ∙ whole); columns = λ h whole. a.columns h (same ∙ whole) })
