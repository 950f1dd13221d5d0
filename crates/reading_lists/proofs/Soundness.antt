-- A simplex is judged vertex by vertex: what is left of it, from the least number that may stand next, decides.
use Prim.Native.Nat.{ℕ, suc, ◌+◌, ◌≤◌, ◌<◌}
use native.Mathlib.Numerals.{add-one}
use native.Mathlib.Omega.{arith}
use mathlib.Core.Path.{◌≡◌, refl, sym}
use mathlib.Core.Bool.{Bool, true, false, ◌&&◌, and-false}
use mathlib.Core.List.{List, ◌∷◌}
use lib.ListN.{length, drop, get_or, drop_of_length-le}
use lib.Seq.{drop-cons}
use lib.Dec.{leb}
use borrow.Author.Tests.{lt-ltb, le-ltb, le-leb, lt-leb}
use Rattle.format.specs.Simplex.{Simplex, rising_from, all_below, sound_simplex}

-- the vertices are sound where each is below v and they rise from `least` on
abbrev sound_from : (v least : ℕ) → List ℕ → Bool
sound_from v least l = rising_from least l && all_below v l

-- a simplex of n vertices, of which i were found sound
pub record Sounding (v : ℕ) (l : Simplex) (n least i : ℕ) : Type 0 where
  pub size : n ≡ length l
  pub within : i ≤ n
  pub rest : sound_simplex v l ≡ sound_from v least (drop i l)

pub sounding-start : (v : ℕ) (l : Simplex) (n : ℕ) → n ≡ length l → Sounding v l n 0 0
unfolding sound_simplex
sounding-start v l n e = record { size = e; within = omega arith; rest = refl }

module _ (v : ℕ) (l : Simplex) (n least i : ℕ) (h : Sounding v l n least i) where
  pub sounding-end : n ≤ i → true ≡ sound_simplex v l
  unfolding rising_from all_below
  sounding-end out = rw (h.rest, drop_of_length-le l {i = i} (omega (arith, h.size)))

  module _ (a : ℕ) (below : i < n) (here : a ≡ get_or l i 0) where
    next : drop i l ≡ a ∷ drop (suc i) l
    next = rw here (drop-cons l i 0 (omega (arith, h.size)))

    pub too-low : a < least → false ≡ sound_simplex v l
    unfolding rising_from all_below
    too-low low = rw (h.rest, next, lt-leb least a low)

    pub too-high : v ≤ a → false ≡ sound_simplex v l
    unfolding rising_from all_below
    too-high high = rw (h.rest, next, le-ltb a v high) (sym (and-false (leb least a && rising_from (suc a) (drop (suc i) l))))

    pub sounding-on : least ≤ a → a < v → Sounding v l n (a + 1) (i + 1)
    unfolding rising_from all_below
    sounding-on low high =
        record {
          size = h.size;
          within = omega arith;
          rest = rw (h.rest, next, le-leb least a low, lt-ltb a v high, add-one a, add-one i);
        }
