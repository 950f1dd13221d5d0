-- The members of a chain, written one behind the other: each stands at the front of what is left to put.
use Prim.Native.Nat.{ℕ, suc, ◌+◌, ◌-◌, ◌≤◌, ◌<◌}
use mathlib.Core.Path.{◌≡◌, refl, sym, ◌∙◌, ap}
use mathlib.Core.Bool.{Bool, true, false, cond}
use mathlib.Core.List.{List, [], ◌∷◌, ◌++◌}
use native.Mathlib.Omega.{arith}
use native.Mathlib.Nat.{add-zero}
use native.Mathlib.Numerals.{add-one}
use lib.ListN.{length, get_or, set, drop}
use lib.Seq.{drop-cons}
use Rattle.chains.specs.Chain.{Chain}
use Rattle.format.specs.Simplex.{Simplex}
use Rattle.format.specs.Answer.{members_from, record_of}
use Rattle.writer.specs.Splice.{splice}
use Rattle.writer.specs.Meaning.{simplex_bytes, list_bytes, header_of_size, Put}
use Rattle.writer.proofs.Runs.{put-byte, put-long}
use Rattle.writer.proofs.Records.{splice-before, record-put}

-- the members among lists that stand one behind the other
pub members-append : (k : ℕ) (c : Chain) (a b : List Simplex) → members_from k c (a ++ b) ≡ members_from k c a ++ members_from (k + length a) c b
unfolding members_from
members-append k c [] b = ap (λ n. members_from n c b) (sym (add-zero k))
members-append k c (s ∷ a) b =
    let e : suc k + length a ≡ k + length (s ∷ a) = omega arith in
    go (c k) (members-append (suc k) c a b ∙ ap (λ n. members_from (suc k) c a ++ members_from n c b) e)
  where
    go : (x : Bool) → members_from (suc k) c (a ++ b) ≡ members_from (suc k) c a ++ members_from (k + length (s ∷ a)) c b
        → cond x (s ∷ members_from (suc k) c (a ++ b)) (members_from (suc k) c (a ++ b)) ≡ cond x (s ∷ members_from (suc k) c a) (members_from (suc k) c a) ++ members_from (k + length (s ∷ a)) c b
    go true ih = ap (◌∷◌ s) ih
    go false ih = ih

module _ (c : Chain) (l : List Simplex) (i : ℕ) (s d : Simplex) (h : i < length l) (e : get_or l i d ≡ s) where
  pub next-member : c i ≡ true → list_bytes (members_from i c (drop i l)) ≡ simplex_bytes s ++ list_bytes (members_from (i + 1) c (drop (i + 1) l))
  unfolding members_from list_bytes
  next-member on = rw (add-one, drop-cons l i d, e, on)

  pub no-member : c i ≡ false → list_bytes (members_from i c (drop i l)) ≡ list_bytes (members_from (i + 1) c (drop (i + 1) l))
  unfolding members_from
  no-member off = rw (add-one, drop-cons l i d, off)

-- A CHAIN'S RECORD: the members, the byte in front of them, and the header.
pub chain-put : (l x z : List ℕ) (d : ℕ) (bytes : List ℕ) (next : ℕ) → 7 + length bytes ≤ length l → Put l 7 bytes x next → z ≡ splice (set x 6 d) 0 (header_of_size 16 (next - 6)) → Put l 0 (record_of 16 (d ∷ bytes)) z next
chain-put l x z d bytes next room put is =
    let long : length x ≡ length l = put-long room put in
    let byte : set x 6 d ≡ splice l 6 (d ∷ bytes) =
    (put-byte x 6 d 7 (omega arith) (omega arith)).lent ∙
    ap (λ w. splice w 6 (d ∷ [])) put.lent ∙ splice-before l 6 7 (d ∷ []) bytes refl room in
    record-put l 0 16 (d ∷ bytes) (set x 6 d) z next (omega arith) (record { lent = byte; next = omega (arith, put.next) }) is
