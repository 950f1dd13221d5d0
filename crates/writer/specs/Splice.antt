-- Bytes put into lent memory at a place: those before and behind keep their values. Written piece by piece, the pieces
-- add up.
use Rattle.std.specs.Prelude.{ℕ, suc, ◌+◌, ◌≤◌, ◌<◌, ◌≡◌, List, [], ◌∷◌, ◌++◌, length, take, drop, set}
use Rattle.std.proofs.Common.{sym, ◌∙◌, ap, ap₂, append-nil, append_assoc, arith, add-zero, length-append, length-take, length-drop, take-append-drop, take_at, drop_at, drop-drop, drop-cons}
use Rattle.std.proofs.lemmas.List.{set_at}
use Rattle.std.proofs.Math.Seq.{append_snoc}

abbrev pub splice : List ℕ → ℕ → List ℕ → List ℕ
splice lent at bytes = take at lent ++ bytes ++ drop (at + length bytes) lent

pub splice-nothing : (lent : List ℕ) (at : ℕ) → splice lent at [] ≡ lent
splice-nothing lent at = ap₂ ◌++◌ (append-nil (take at lent)) (ap (λ n. drop n lent) (add-zero at)) ∙ take-append-drop at lent

pub length-splice : (lent : List ℕ) (at : ℕ) (bytes : List ℕ) → at + length bytes ≤ length lent → length (splice lent at bytes) ≡ length lent
length-splice lent at bytes h =
    omega (arith, length-append (take at lent ++ bytes) (drop (at + length bytes) lent), length-append (take at lent) bytes, length-take at lent, length-drop (at + length bytes) lent)

-- one piece and then the next, right behind it
pub splice-more : (lent : List ℕ) (at next : ℕ) (xs ys : List ℕ) → next ≡ at + length xs → at + length xs ≤ length lent → splice (splice lent at xs) next ys ≡ splice lent at (xs ++ ys)
splice-more lent at next xs ys e h =
    let front : length (take at lent ++ xs) ≡ next = omega (arith, length-append (take at lent) xs, length-take at lent) in
    let total : at + length xs + length ys ≡ at + length (xs ++ ys) = omega (arith, length-append xs ys) in
    ap₂ (λ a b. a ++ ys ++ b) (take_at (take at lent ++ xs) (drop (at + length xs) lent) next front)
    (sym (drop-drop (length ys) next (splice lent at xs)) ∙ ap (drop (length ys)) (drop_at (take at lent ++ xs) (drop (at + length xs) lent) next front) ∙
    drop-drop (length ys) (at + length xs) lent ∙ ap (λ n. drop n lent) total) ∙
    ap (λ a. a ++ drop (at + length (xs ++ ys)) lent) (append_assoc (take at lent) xs ys)

-- one byte more
pub splice-byte : (lent : List ℕ) (at next : ℕ) (xs : List ℕ) (b : ℕ) → next ≡ at + length xs → next < length lent → set (splice lent at xs) next b ≡ splice lent at (xs ++ (b ∷ []))
splice-byte lent at next xs b e h =
    let front : length (take at lent ++ xs) ≡ next = omega (arith, length-append (take at lent) xs, length-take at lent) in
    let total : suc (at + length xs) ≡ at + length (xs ++ (b ∷ [])) = omega (arith, length-append xs (b ∷ [])) in
    ap (λ x. set (take at lent ++ xs ++ x) next b) (drop-cons lent (at + length xs) 0 (omega arith)) ∙
    set_at (take at lent ++ xs) _ (drop (suc (at + length xs)) lent) b next front ∙
    ap (λ n. (take at lent ++ xs) ++ (b ∷ drop n lent)) total ∙
    sym (append_snoc (take at lent ++ xs) b (drop (at + length (xs ++ (b ∷ []))) lent)) ∙
    ap (λ a. a ++ drop (at + length (xs ++ (b ∷ []))) lent) (append_assoc (take at lent) xs (b ∷ []))
