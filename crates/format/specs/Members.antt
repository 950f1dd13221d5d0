-- Laws of an answer's members: they are listed, so they are sound and few.
use Rattle.std.specs.Prelude.{ℕ, zero, suc, ◌+◌, ◌*◌, ◌≤◌, ◌≡◌, refl, Bool, true, false, ◌||◌, cond, List, [], ◌∷◌, length}
use Rattle.std.proofs.Common.{sym, subst, arith, length-append, lt-ltb, le-leb}
use Rattle.std.proofs.Math.Bool.{or-true}
use Rattle.chains.specs.Chain.{Chain}
use Rattle.format.specs.Numbers.{Limits}
use Rattle.format.specs.Simplex.{Simplex, Complex, sound_simplex, rising_from, all_below, same, listed, simplices, vertex_list}
use Rattle.format.specs.Answer.{members_from, vertices_of}
use Rattle.format.specs.Listed.{true-not-false, same_refl}
use Rattle.format.specs.Sound.{copies, SoundComplex}
use Rattle.format.specs.Marks.{vertex-below}

-- a member is listed
pub members-listed : (k : ℕ) (c : Chain) (l : List Simplex) (s : Simplex) → listed s (members_from k c l) ≡ true → listed s l ≡ true
unfolding members_from listed
members-listed k c [] s e = e
members-listed k c (t ∷ l) s e = go (c k) e (members-listed (suc k) c l s)
  where
    go : (x : Bool) → listed s (cond x (t ∷ members_from (suc k) c l) (members_from (suc k) c l)) ≡ true → (listed s (members_from (suc k) c l) ≡ true → listed s l ≡ true) → same s t || listed s l ≡ true
    go true e ih = here (same s t) e
      where
        here : (y : Bool) → y || listed s (members_from (suc k) c l) ≡ true → y || listed s l ≡ true
        here true e = refl
        here false e = ih e
    go false e ih = rw (ih e, or-true)

-- members of at most w vertices each take at most w bytes for each simplex of the list
pub members-few : (w k : ℕ) (c : Chain) (l : List Simplex) → ((s : Simplex) → listed s l ≡ true → length s ≤ w) → length (vertices_of (members_from k c l)) ≤ w * length l
unfolding members_from listed vertices_of
members-few w k c [] wide = omega arith
members-few w k c (s ∷ l) wide =
    go (c k) (members-few w (suc k) c l (λ t h. wide t (rw (h, or-true)))) (wide s (rw (same_refl s)))
  where
    go : (x : Bool) → length (vertices_of (members_from (suc k) c l)) ≤ w * length l → length s ≤ w → length (vertices_of (cond x (s ∷ members_from (suc k) c l) (members_from (suc k) c l))) ≤ w * suc (length l)
    go true rest here = omega (arith, length-append s (vertices_of (members_from (suc k) c l)))
    go false rest here = omega arith

-- SOUND in every dimension.
pub record SoundMember (v : ℕ) (s : Simplex) : Type 0 where
  pub sound : sound_simplex v s ≡ true
  pub few : length s ≤ 4

pub listed-copies : (s : Simplex) (l : List Simplex) → listed s l ≡ true → 1 ≤ copies s l
unfolding listed copies
listed-copies s [] e = true-not-false false e refl
listed-copies s (t ∷ l) e = go (same s t) e (listed-copies s l)
  where
    go : (x : Bool) → x || listed s l ≡ true → (listed s l ≡ true → 1 ≤ copies s l) → 1 ≤ cond x 1 0 + copies s l
    go true e ih = omega arith
    go false e ih = omega (arith, ih e)

vertex-sound : (v : ℕ) (s : Simplex) → listed s (vertex_list v) ≡ true → SoundMember v s
unfolding sound_simplex rising_from all_below
vertex-sound v s e =
    let it = vertex-below v s (listed-copies s (vertex_list v) e) in
    subst (SoundMember v) (sym it.2)
    (record { sound = rw (le-leb 0 it.0 (omega arith), lt-ltb it.0 v it.1); few = omega arith })

pub simplices-sound : (L : Limits) (X : Complex) → SoundComplex L X → (k : ℕ) (s : Simplex) → listed s (simplices X k) ≡ true → SoundMember X.v s
unfolding simplices listed
simplices-sound L X sound zero s e = vertex-sound X.v s e
simplices-sound L X sound (suc zero) s e = record { sound = sound.edges.sound s e; few = omega (arith, sound.edges.wide s e) }
simplices-sound L X sound (suc (suc zero)) s e = record { sound = sound.triangles.sound s e; few = omega (arith, sound.triangles.wide s e) }
simplices-sound L X sound (suc (suc (suc zero))) s e = record { sound = sound.tetrahedra.sound s e; few = omega (arith, sound.tetrahedra.wide s e) }
simplices-sound L X sound (suc (suc (suc (suc k)))) s e = true-not-false false e refl
