-- What a reader answers, as the reading that crate `format` defines.
use Rattle.std.specs.Prelude.{ℕ, ◌≡◌, refl, Result, IsErrAnd}
use Rattle.std.proofs.Common.{Ok, Err, sym, ◌∙◌, ap, arith}
use Rattle.format.specs.Reading.{Reading, accepted, refused, ◌and_then◌}
use Rattle.refusals.specs.Meaning.{number_of}
use Rattle.refusals.specs.declared.Refusal.{Refusal}

-- a refusal, as the definitions have it: its number and its place
abbrev pub refused_by : {A : Type 0} → Refusal → Reading A
refused_by e = refused (number_of e.reason) e.place

-- what was read, by what it means, or the refusal
abbrev pub reading_of : {A B : Type 0} → (A → B) → Result A Refusal → Reading B
reading_of means (Ok a) = accepted (means a)
reading_of means (Err e) = refused_by e

-- what is done with what was read is done only where nothing was refused
pub reading-then : {A B C : Type 0} (r : Result A Refusal) (f : A → B) (g : B → C) → (reading_of f r and_then λ x. accepted (g x)) ≡ reading_of (λ a. g (f a)) r
reading-then (Ok a) f g = refl
reading-then (Err e) f g = refl

pub reading-both : {A B C D : Type 0} (r : Result A Refusal) (f : A → B) (g : B → C) (h : C → D)
    → ((reading_of f r and_then λ x. accepted (g x)) and_then λ y. accepted (h y)) ≡ reading_of (λ a. h (g (f a))) r
reading-both (Ok a) f g h = refl
reading-both (Err e) f g h = refl

-- what an answer is known to be, put into what the answer means
pub told : {A B : Type 0} (means : A → B) (answer known : A) (x : B) → means answer ≡ x → answer ≡ known → x ≡ means known
told means answer known x e k = sym e ∙ ap means k

-- what was read is no refusal, and it is one thing
pub not_read : {A : Type 0} {e : Refusal} {a : A} → ◌≡◌ {A = Result A Refusal} (Err e) (Ok a) → ⊥
not_read f = let z : ◌≡◌ {A = ℕ} 0 1 = cc in omega arith

pub same_read : {A : Type 0} {a b : A} → ◌≡◌ {A = Result A Refusal} (Ok a) (Ok b) → a ≡ b
same_read f = cc

-- what a `?` hands up is the refusal that came
pub handed_up : {A : Type 0} {e : Refusal} (r : Result A Refusal) → IsErrAnd r (λ x. x ≡ e) → r ≡ Err e
handed_up (Ok a) p = absurd p
handed_up (Err x) p = ap Err p
