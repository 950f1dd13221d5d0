-- Demand 3, stated about sets of simplices (file `Sets`), as theorems about every file that was read and every answer
-- that the promise allows: a boundary question is refused exactly when no set of listed simplices has that boundary, and
-- else answered with the smallest that has; a class question is answered with the smallest of its class, and never refused.
use Rattle.std.specs.Prelude.{ℕ, suc, pred, ◌≤◌, ◌≡◌, refl, List, ◌↔◌, get_or, leb}
use Rattle.std.proofs.Common.{sym, ◌∙◌, ap, subst, arith, leb-true}
use Rattle.format.specs.Numbers.{Limits, answer_kind, refusal_kind, rim_open, no_filling}
use Rattle.format.specs.Simplex.{Simplex, SimplexSet, simplices}
use Rattle.format.specs.Reading.{Job, Question, fill, class, chain_dimension, dimension_fits, accepted, reading}
use Rattle.format.specs.Answer.{refusal_record, row_dimension, rows, cols, AnswerTo, Answered}
use Rattle.format.specs.Listed.{and-true}
use Rattle.format.specs.Sound.{Within, SoundJob}
use Rattle.format.specs.Outcome.{answer_of}
use Rattle.format.proofs.Accepted.{accepted-sound}
use Rattle.format.specs.Unique.{answer-unique}
use Rattle.format.specs.Sets.{SmallestSet, set_record, IsRefusal, FillsSet, InClassSet, RimClosed, NoneFills, FillSetAnswer, refused_open, refused_unfilled, filled_by, ClassSetAnswer, SetAnswerTo}
use Rattle.format.proofs.SetLaws.{record-tells}
use Rattle.format.proofs.SetBoundary.{simplices-wide}
use Rattle.format.proofs.SetAnswers.{fillable-closed, fill-by-sets, fill-by-ranks, class-by-sets, class-by-ranks}

-- THE KINDS differ, so a set's record is no refusal's; and the two refusals' numbers differ.
set-not-refused : (answer : List ℕ) (d : ℕ) (l : List Simplex) (S : SimplexSet) → answer ≡ set_record d l S → IsRefusal answer → ⊥
unfolding set_record refusal_record
set-not-refused answer d l S e r =
    let z : ◌≡◌ {A = ℕ} answer_kind refusal_kind = sym (ap (λ x. get_or x 4 0) e) ∙ ap (λ x. get_or x 4 0) r.2 in
    omega arith

open-not-unfilled : (answer : List ℕ) → answer ≡ refusal_record rim_open 0 → answer ≡ refusal_record no_filling 0 → ⊥
unfolding refusal_record
open-not-unfilled answer e f =
    let z : ◌≡◌ {A = ℕ} rim_open no_filling = sym (ap (λ x. get_or x 6 0) e) ∙ ap (λ x. get_or x 6 0) f in
    omega arith

-- WHAT THE PROMISE SAYS of a sound job's answer is what `SetAnswerTo` says of it, for either question.
module _ (L : Limits) (j : Job) (sound : SoundJob L j) where
  by-sets : (q : Question) (answer : List ℕ) → AnswerTo j q answer → SetAnswerTo j q answer
  by-sets fill answer a = fill-by-sets L j sound answer a
  by-sets class answer a = class-by-sets L j sound answer a

  by-ranks : (q : Question) (answer : List ℕ) → SetAnswerTo j q answer → AnswerTo j q answer
  by-ranks fill answer a = fill-by-ranks L j sound answer a
  by-ranks class answer a = class-by-ranks L j sound answer a

-- THE THEOREMS, about a file that was read.
module _ (L : Limits) (b : List ℕ) (j : Job) (read : reading L b ≡ accepted j) where
  sound : SoundJob L j
  sound = accepted-sound L b j read

  -- THE PROMISE, said about sets: an answer meets the one exactly when it meets the other.
  pub answered-by-sets : (answer : List ℕ) → Answered (reading L b) answer ↔ SetAnswerTo j j.question answer
  answered-by-sets answer = (
    λ a. by-sets L j sound j.question answer (subst (λ r. Answered r answer) read a),
    λ a. subst (λ r. Answered r answer) (sym read) (by-ranks L j sound j.question answer a),
  )

  -- Every file that was read has such an answer,
  pub set-answer-told : (answer : List ℕ) × SetAnswerTo j j.question answer
  set-answer-told = let told = answer_of (reading L b) in (told.0, (answered-by-sets told.0).0 told.1)

  -- and no second one.
  pub set-answer-unique : (a c : List ℕ) → SetAnswerTo j j.question a → SetAnswerTo j j.question c → a ≡ c
  set-answer-unique a c x y =
      answer-unique j j.question a c (by-ranks L j sound j.question a x) (by-ranks L j sound j.question c y)

  -- The answer is made of d-simplices: to fill, A has one dimension less; for a class, the same.
  pub fill-of-d : j.question ≡ fill → cols j ≡ simplices j.complex j.d
  fill-of-d q =
      let some : 1 ≤ j.d
      = leb-true 1 j.d (and-true (leb 1 j.d) (leb j.d 3) (ap (λ q. dimension_fits q j.d) (sym q) ∙ sound.dimension)).0 in
      let same : suc (pred j.d) ≡ j.d = omega arith in
      ap (λ q. simplices j.complex (suc (chain_dimension q j.d))) q ∙ ap (simplices j.complex) same

  pub class-of-d : j.question ≡ class → rows j ≡ simplices j.complex j.d
  class-of-d q = ap (λ q. simplices j.complex (chain_dimension q j.d)) q

  module _ (answer : List ℕ) (is : Answered (reading L b) answer) where
    -- A BOUNDARY QUESTION is refused with 12, refused with 13, or answered with the smallest set that has that boundary.
    pub fill-answered : j.question ≡ fill → FillSetAnswer j answer
    fill-answered q = subst (λ q. SetAnswerTo j q answer) q ((answered-by-sets answer).0 is)

    -- It is refused, with whatever number and place, exactly when no set of listed simplices has that boundary.
    pub refused-exactly : j.question ≡ fill → (IsRefusal answer ↔ NoneFills j)
    refused-exactly q = (λ r. none (fill-answered q) r, λ n. refused (fill-answered q) n)
      where
        none : FillSetAnswer j answer → IsRefusal answer → NoneFills j
        none (refused_open o e) r = λ S f. o (fillable-closed L j sound S f)
        none (refused_unfilled c n e) r = n
        none (filled_by S s e) r = absurd (set-not-refused answer j.d (cols j) S e r)

        refused : FillSetAnswer j answer → NoneFills j → IsRefusal answer
        refused (refused_open o e) n = (rim_open, 0, e)
        refused (refused_unfilled c n' e) n = (no_filling, 0, e)
        refused (filled_by S s e) n = absurd (n S s.has)

    -- "12 rim open", given exactly when "the boundary of A is not empty"
    pub open-exactly : j.question ≡ fill → ((answer ≡ refusal_record rim_open 0) ↔ (RimClosed j → ⊥))
    open-exactly q = (λ e. closes (fill-answered q) e, λ o. opens (fill-answered q) o)
      where
        closes : FillSetAnswer j answer → answer ≡ refusal_record rim_open 0 → RimClosed j → ⊥
        closes (refused_open o e) g = o
        closes (refused_unfilled c n e) g = absurd (open-not-unfilled answer g e)
        closes (filled_by S s e) g = absurd (set-not-refused answer j.d (cols j) S e (rim_open, 0, g))

        opens : FillSetAnswer j answer → (RimClosed j → ⊥) → answer ≡ refusal_record rim_open 0
        opens (refused_open o e) g = e
        opens (refused_unfilled c n e) g = absurd (g c)
        opens (filled_by S s e) g = absurd (g (fillable-closed L j sound S s.has))

    -- "13 no filling", given exactly when "the boundary of A is empty, no d-chain has boundary A"
    pub unfilled-exactly : j.question ≡ fill → ((answer ≡ refusal_record no_filling 0) ↔ (RimClosed j × NoneFills j))
    unfilled-exactly q = (λ e. given (fill-answered q) e, λ p. gives (fill-answered q) p)
      where
        given : FillSetAnswer j answer → answer ≡ refusal_record no_filling 0 → RimClosed j × NoneFills j
        given (refused_open o e) g = absurd (open-not-unfilled answer e g)
        given (refused_unfilled c n e) g = (c, n)
        given (filled_by S s e) g = absurd (set-not-refused answer j.d (cols j) S e (no_filling, 0, g))

        gives : FillSetAnswer j answer → RimClosed j × NoneFills j → answer ≡ refusal_record no_filling 0
        gives (refused_open o e) p = absurd (o p.0)
        gives (refused_unfilled c n e) p = e
        gives (filled_by S s e) p = absurd (p.1 S s.has)

    -- the answer is a set's record exactly when that set is the smallest that has the boundary
    pub filled-exactly : j.question ≡ fill → (S : SimplexSet) → Within S (cols j)
        → ((answer ≡ set_record j.d (cols j) S) ↔ SmallestSet (cols j) (FillsSet j) S)
    filled-exactly q S within = (λ e. given (fill-answered q) e, λ s. unique s)
      where
        given : FillSetAnswer j answer → answer ≡ set_record j.d (cols j) S → SmallestSet (cols j) (FillsSet j) S
        given (refused_open o e) g = absurd (set-not-refused answer j.d (cols j) S g (rim_open, 0, e))
        given (refused_unfilled c n e) g = absurd (set-not-refused answer j.d (cols j) S g (no_filling, 0, e))
        given (filled_by T s e) g =
            subst (SmallestSet (cols j) (FillsSet j))
            (record-tells j.d (suc (suc (row_dimension j))) (cols j) (omega arith)
            (simplices-wide L j.complex sound.complex (suc (row_dimension j))) T S s.has.within within (sym e ∙ g)) s

        unique : SmallestSet (cols j) (FillsSet j) S → answer ≡ set_record j.d (cols j) S
        unique s =
            set-answer-unique answer (set_record j.d (cols j) S) ((answered-by-sets answer).0 is)
            (subst (λ q. SetAnswerTo j q (set_record j.d (cols j) S)) (sym q) (filled_by S s refl))

    -- A CLASS QUESTION is answered with the smallest set of the class
    pub class-answered : j.question ≡ class → ClassSetAnswer j answer
    class-answered q = subst (λ q. SetAnswerTo j q answer) q ((answered-by-sets answer).0 is)

    -- and never refused, with no number and at no place.
    pub class-never-refused : j.question ≡ class → IsRefusal answer → ⊥
    class-never-refused q r =
        let a = class-answered q in
        set-not-refused answer j.d (rows j) a.set a.is r

    -- the answer is a set's record exactly when that set is the smallest of the class
    pub class-exactly : j.question ≡ class → (G : SimplexSet) → Within G (rows j)
        → ((answer ≡ set_record j.d (rows j) G) ↔ SmallestSet (rows j) (InClassSet j) G)
    class-exactly q G within = (λ e. given (class-answered q) e, λ s. unique s)
      where
        given : ClassSetAnswer j answer → answer ≡ set_record j.d (rows j) G → SmallestSet (rows j) (InClassSet j) G
        given a g =
            subst (SmallestSet (rows j) (InClassSet j))
            (record-tells j.d (suc (row_dimension j)) (rows j) (omega arith)
            (simplices-wide L j.complex sound.complex (row_dimension j)) a.set G a.smallest.has.within within (sym a.is ∙ g))
            a.smallest

        unique : SmallestSet (rows j) (InClassSet j) G → answer ≡ set_record j.d (rows j) G
        unique s =
            set-answer-unique answer (set_record j.d (rows j) G) ((answered-by-sets answer).0 is)
            (subst (λ q. SetAnswerTo j q (set_record j.d (rows j) G)) (sym q) (record { set = G; smallest = s; is = refl }))
