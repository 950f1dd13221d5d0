-- The answers: the slots hold the matrix of the lists, and the pair in hand holds the marked chain, so what the slots
-- make of it is the answer to the question.
use Prim.Native.Nat.{ℕ, ◌*◌, ◌≤◌}
use mathlib.Core.Path.{◌≡◌, subst}
use mathlib.Core.Bool.{Bool}
use mathlib.Core.List.{List}
use lib.ListN.{length}
use Rattle.chains.specs.Chain.{Under}
use Rattle.format.specs.Simplex.{Simplex, columns}
use Rattle.format.specs.Matrix.{columns-under}
use Rattle.columns.specs.Slot.{chain_r, chain_v}
use Rattle.slots.specs.Slots.{FillsIn, ClassesIn}
use Rattle.lists.specs.declared.Marks.{Marks}
use Rattle.solver.specs.Columns.{Loads, Marked}
use Rattle.solver.specs.Solved.{asked, Prepared, FillTold, ClassTold}
use Rattle.solver.proofs.Marking.{marked-past}

-- the marked chain is one of its list
asked-under : (rows : List Simplex) (marks : Marks) → Under (length rows) (asked rows marks)
asked-under rows marks i ge = marked-past marks (length rows) i ge

module _ (h : ℕ) (rows cols : List Simplex) (marks : Marks) {m : ℕ} {work : List ℕ} {taken : List Bool} {cur : List ℕ} where
  pub prepared : {lent : List ℕ} → length rows ≤ 8 * h → length lent ≡ 2 * h → Loads h rows cols m work taken
      → Marked m marks lent cur → Prepared h rows cols marks m work taken cur
  prepared {lent} small whole loads marked =
      let all : Marked (length rows) marks lent cur = subst (λ k. Marked k marks lent cur) loads.size marked in
      record { loads = loads; chain = all.chain h whole small; no-columns = all.columns h whole small }

  module _ (p : Prepared h rows cols marks m work taken cur) {left : List ℕ} where
    -- what the slots answer, they answer of the marked chain
    pub fill_told : {answer : Bool} → FillsIn h m work taken cur answer left → FillTold rows cols marks answer (chain_v h left)
    fill_told {answer} f = record {
      says =
          (subst (λ k. FillsIn h k work taken cur answer left) p.loads.size f).answers (columns rows cols) (length cols)
          (asked rows marks) p.loads.all (asked-under rows marks) p.chain p.no-columns;
    }

    pub class_told : ClassesIn h m work taken cur left → ClassTold rows cols marks (chain_r h left)
    class_told f =
        (subst (λ k. ClassesIn h k work taken cur left) p.loads.size f).smallest (columns rows cols) (length cols)
        (asked rows marks) p.loads.all (λ i lt. columns-under rows cols i) (asked-under rows marks) p.chain
