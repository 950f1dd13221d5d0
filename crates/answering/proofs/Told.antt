-- What the solver told about the lists and the marks, as an answer to the job that the arrays hold.
use Prim.Native.Nat.{ℕ, suc, pred, ◌+◌, ◌≤◌}
use mathlib.Core.Path.{◌≡◌, refl, sym, ◌∙◌, ap, ap₂, subst, subst₂}
use mathlib.Core.Bool.{Bool, true, false}
use mathlib.Core.List.{List}
use native.Mathlib.Numerals.{add-one}
use native.Mathlib.Omega.{arith}
use lib.Dec.{leb}
use borrow.Author.Tests.{leb-true}
use lib.ListN.{length, get_or}
use Rattle.chains.specs.Chain.{Chain, boundary, SmallestFilling, SmallestInClass, Fills}
use Rattle.format.specs.Numbers.{small, no_filling}
use Rattle.format.specs.Simplex.{Simplex, Complex, simplices, lower, columns}
use Rattle.format.specs.Reading.{Reading, reading, Job, Question, fill, class, question_of, dimension_fits, chain_dimension}
use Rattle.format.specs.Listed.{and-true}
use Rattle.format.specs.Rims.{filled-closed}
use Rattle.format.specs.Answer.{row_dimension, rows, cols, matrix, asked_chain, rim, FillAnswer, unfilled, patch, AnswerTo, Answered, refusal_record, chain_record}
use Rattle.std.specs.Prelude.{Result}
use Rattle.std.proofs.Common.{Ok}
use Rattle.refusals.specs.declared.Refusal.{Refusal}
use Rattle.lent_lists.specs.Held.{complex_in}
use Rattle.jobs.specs.Meaning.{Asking, Told, job_in}
use Rattle.jobs.specs.Known.{told-accepted, told_asking}
use Rattle.jobs.specs.declared.NumbersRead.{NumbersRead}
use Rattle.solver.specs.Solved.{asked, rim_of, RimTold, FillSays, ClassTold}
use Rattle.writer.specs.Meaning.{Put}
use Rattle.answers.specs.Meaning.{chain_bytes}
use Rattle.answering.specs.Meaning.{Answers, AnswersFile}
use Rattle.answering.proofs.Lists.{chain-bytes}

module _ {read : NumbersRead} {e_keys t_keys s_keys t_sides s_sides : List ℕ}
    (k : Asking read e_keys t_keys s_keys t_sides s_sides) {dim : ℕ}
    (dim-is : dim ≡ chain_dimension (question_of read.head.question) read.head.d) where
  abbrev j : Job
  j = job_in read e_keys t_keys s_keys k.set

  abbrev X : Complex
  X = complex_in read.head.v read.counts e_keys t_keys s_keys

  -- the lists of the job are those of the complex
  same_rows : simplices X dim ≡ rows j
  same_rows = ap (simplices X) dim-is

  same-cols : simplices X (dim + 1) ≡ cols j
  same-cols = ap (simplices X) (add-one dim) ∙ ap (λ (n : ℕ). simplices X (suc n)) dim-is

  same-lower : lower X dim ≡ lower X (row_dimension j)
  same-lower = ap (lower X) dim-is

  -- A is the marked chain
  same_asked : asked (rows j) read.marks ≡ asked_chain j
  same_asked = ap (λ m i. get_or m i false) k.marks.marks

  -- A is to be filled
  module _ (q : question_of read.head.question ≡ fill) where
    asks-fill : (answer : List ℕ) → FillAnswer j answer → AnswerTo j j.question answer
    asks-fill answer a = subst (λ x. AnswerTo j x answer) (sym q) a

    -- the solver found a filling, so the rim is empty
    pub answers-patch : (x : Chain) {before after : List ℕ} {count : ℕ} {l : List Simplex} → l ≡ simplices X (dim + 1)
        → FillSays (simplices X dim) (simplices X (dim + 1)) read.marks true x
        → Put before 0 (chain_bytes read.head.d x l) after count → Answers j before after count
    answers-patch x {before} {after} {count} same says put =
        let found = subst₂ (λ (r c : List Simplex). FillSays r c read.marks true x) same_rows same-cols says in
        let smallest : SmallestFilling (matrix j) (length (cols j)) (asked_chain j) x =
        subst (λ A. SmallestFilling (matrix j) (length (cols j)) A x) same_asked found in
        let bytes =
        ap (chain_bytes read.head.d x) same
        ∙ chain-bytes X k.held.sound (dim + 1) read.head.d x
        ∙ ap (λ (m : List Simplex). chain_record read.head.d m x) same-cols in
        record {
          answer = chain_record j.d (cols j) x;
          is = asks-fill _ (patch (filled-closed small j k.sound x smallest.has) x smallest refl);
          put = subst (λ b. Put before 0 b after count) bytes put;
        }

    -- it found none, and then it was asked whether the rim is empty
    module _ {closed : Bool} (told : RimTold (lower X dim) (simplices X dim) read.marks closed) where
      same-rim : rim_of (lower X dim) (simplices X dim) read.marks ≡ rim j
      same-rim =
          ap₂ (λ (l r : List Simplex). rim_of l r read.marks) same-lower same_rows
          ∙ ap (boundary (columns (lower X (row_dimension j)) (rows j)) (length (rows j))) same_asked

      pub answers-unfilled : (x : Chain) {before after : List ℕ} {count : ℕ} → closed ≡ true
          → FillSays (simplices X dim) (simplices X (dim + 1)) read.marks false x
          → Put before 0 (refusal_record no_filling 0) after count → Answers j before after count
      answers-unfilled x e says put =
          let none = subst₂ (λ (r c : List Simplex). FillSays r c read.marks false x) same_rows same-cols says in
          record {
            answer = refusal_record no_filling 0;
            is = asks-fill _
                (unfilled (sym same-rim ∙ told.is_closed e) (λ other f. none other (subst (λ A. Fills (matrix j) (length (cols j)) A other) (sym same_asked) f)) refl);
            put = put;
          }

  pub answers-class : {before after : List ℕ} {count : ℕ} {l : List Simplex} (x : Chain) → question_of read.head.question ≡ class → l ≡ simplices X dim
      → ClassTold (simplices X dim) (simplices X (dim + 1)) read.marks x → Put before 0 (chain_bytes read.head.d x l) after count
      → Answers j before after count
  answers-class {before} {after} {count} x q same told put =
      let known = subst₂ (λ (r c : List Simplex). ClassTold r c read.marks x) same_rows same-cols told in
      let bytes =
      ap (chain_bytes read.head.d x) same
      ∙ chain-bytes X k.held.sound dim read.head.d x
      ∙ ap (λ (m : List Simplex). chain_record read.head.d m x) same_rows in
      record {
        answer = chain_record j.d (rows j) x;
        is = subst (λ y. AnswerTo j y (chain_record j.d (rows j) x)) (sym q)
            (record { chain = x; smallest = subst (λ A. SmallestInClass (matrix j) (length (cols j)) (length (rows j)) A x) same_asked known; is = refl });
        put = subst (λ b. Put before 0 b after count) bytes put;
      }

-- A FILE is answered as the job that was read is.
module _ {b before after : List ℕ} {count : ℕ} where
  pub file-answered : {e_keys t_keys s_keys t_sides s_sides : List ℕ} {j : NumbersRead} {r : Result NumbersRead Refusal} → Told (reading small b) e_keys t_keys s_keys t_sides s_sides r → r ≡ Ok j
      → ((k : Asking j e_keys t_keys s_keys t_sides s_sides) → Answers (job_in j e_keys t_keys s_keys k.set) before after count)
      → AnswersFile b before after count
  unfolding told_asking
  file-answered {j = j} {r = r} told fine answers =
      let a = answers (told_asking b j r told fine) in
      record { answer = a.answer; is = subst (λ (x : Reading Job). Answered x a.answer) (sym (told-accepted b j r told fine)) a.is; put = a.put }

-- A has dimension 2 at most.
pub dimension_few : (q : Question) (d : ℕ) → dimension_fits q d ≡ true → chain_dimension q d ≤ 2
dimension_few fill d e = few d (leb-true d 3 (and-true (leb 1 d) (leb d 3) e).1)
  where
    few : (d : ℕ) → d ≤ 3 → pred d ≤ 2
    few d h = omega arith
dimension_few class d e = leb-true d 2 e
