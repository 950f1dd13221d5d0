-- A simplex's own number: its vertices are the digits. Simplices of one dimension with the same number are the same.
use Rattle.std.specs.Prelude.{ℕ, zero, suc, ◌+◌, ◌*◌, ◌/◌, ◌%◌, ◌≤◌, ◌<◌, ◌≡◌, refl, List, [], ◌∷◌, length, get_or}
use Rattle.std.proofs.Common.{ap, ap₂, ◌∙◌, arith}

abbrev pub digit : ℕ
digit = 65536

pub number : List ℕ → ℕ
number [] = 0
number (a ∷ l) = a + digit * number l

-- every vertex is a digit
pub data Digits : List ℕ → Type 0 where
  none : Digits []
  more : {a : ℕ} {l : List ℕ} → a < digit → Digits l → Digits (a ∷ l)

pub number_same : (l m : List ℕ) → length l ≡ length m → Digits l → Digits m → number l ≡ number m → l ≡ m
unfolding number
number_same [] [] size d e same = refl
number_same [] (b ∷ m) size d e same = absurd (omega arith)
number_same (a ∷ l) [] size d e same = absurd (omega arith)
number_same (a ∷ l) (b ∷ m) size (more p d) (more q e) same =
    ap₂ (λ (x : ℕ) (y : List ℕ). x ∷ y) (omega arith) (number_same l m (omega arith) d e (omega arith))

pub number-none : number [] ≡ 0
unfolding number
number-none = refl

pub number_more : (a : ℕ) (l : List ℕ) → number (a ∷ l) ≡ a + digit * number l
unfolding number
number_more a l = refl

-- the digits of a number, so many of them
unfoldable pub digits_of : (width number : ℕ) → List ℕ
digits_of zero k = []
digits_of (suc w) k = k % digit ∷ digits_of w (k / digit)

-- are the vertices that it was made of
pub digits-own : (l : List ℕ) → Digits l → digits_of (length l) (number l) ≡ l
unfolding number digits_of
digits-own [] d = refl
digits-own (a ∷ l) (more lt d) =
    let low : (a + digit * number l) % digit ≡ a = omega arith in
    let high : (a + digit * number l) / digit ≡ number l = omega arith in
    ap₂ (λ (x : ℕ) (y : List ℕ). x ∷ y) low (ap (digits_of (length l)) high ∙ digits-own l d)

-- at most four digits, written out
pub number-four : (l : List ℕ) → length l ≤ 4
    → get_or l 0 0 + digit * (get_or l 1 0 + digit * (get_or l 2 0 + digit * get_or l 3 0)) ≡ number l
unfolding number
number-four [] h = refl
number-four (a ∷ []) h = omega arith
number-four (a ∷ b ∷ []) h = omega arith
number-four (a ∷ b ∷ e ∷ []) h = omega arith
number-four (a ∷ b ∷ e ∷ f ∷ []) h = omega arith
number-four (a ∷ b ∷ e ∷ f ∷ g ∷ l) h = absurd (omega arith)

pub digits-four : (l : List ℕ) → length l ≤ 4 → get_or l 0 0 < digit → get_or l 1 0 < digit → get_or l 2 0 < digit → get_or l 3 0 < digit
    → Digits l
digits-four [] h p q r s = none
digits-four (a ∷ []) h p q r s = more p none
digits-four (a ∷ b ∷ []) h p q r s = more p (more q none)
digits-four (a ∷ b ∷ e ∷ []) h p q r s = more p (more q (more r none))
digits-four (a ∷ b ∷ e ∷ f ∷ []) h p q r s = more p (more q (more r (more s none)))
digits-four (a ∷ b ∷ e ∷ f ∷ g ∷ l) h p q r s = absurd (omega arith)
