-- The bytes from a place on, of which some are asked for: crate `reading_lists` reads a simplex from them.
use Prim.Native.Nat.{ℕ, ◌+◌, ◌≤◌, ◌<◌}
use native.Mathlib.Omega.{arith}
use mathlib.Core.Path.{◌≡◌, sym, ◌∙◌}
use mathlib.Core.List.{List}
use lib.ListN.{length, take, drop, get_or, length-take, length-drop}
use lib.Seq.{get_or-take, get_or-drop}

module _ (p : List ℕ) (at w i : ℕ) where
  pub byte_at : i < w → get_or p (at + i) 0 ≡ get_or (take w (drop at p)) i 0
  byte_at h = sym (get_or-take w (drop at p) i 0 h ∙ get_or-drop at p i 0)

pub length_part : (p : List ℕ) (at w : ℕ) → at + w ≤ length p → length (take w (drop at p)) ≡ w
length_part p at w h = omega (arith, length-take w (drop at p), length-drop at p)
