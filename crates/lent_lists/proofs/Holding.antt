-- A sound complex that was put into the arrays is the one that they hold: its lists' numbers stand there, and the facets of its
-- triangles and tetrahedra are listed, so that all sides were found.
use Prim.Native.Nat.{ℕ, suc}
use mathlib.Core.Path.{◌≡◌, refl, sym, subst, subst₂}
use mathlib.Core.List.{List}
use native.Mathlib.Omega.{arith}
use Rattle.format.specs.Numbers.{small}
use Rattle.format.specs.Simplex.{Simplex}
use Rattle.format.specs.Simplex as format
use Rattle.format.specs.Lookup.{stands-listed}
use Rattle.format.specs.Sound.{SoundComplex}
use Rattle.std.proofs.Common.{Result}
use Rattle.lists.specs.Meaning.{simplices_of}
use Rattle.lookup.specs.Indexed.{Proper, Keyed}
use Rattle.lookup.specs.IndexLaws.{sound-proper}
use Rattle.lookup.specs.Numbered.{simplices_in}
use Rattle.lookup.specs.NumberedLaws.{keyed-in}
use Rattle.lookup.specs.Sides.{Sided, SidesTold}
use Rattle.lookup.specs.SidesLaws.{sides-closed}
use Rattle.complexes.specs.Meaning.{complex_of}
use Rattle.complexes.specs.declared.Complex.{Complex}
use Rattle.lent_lists.specs.Held.{complex_in, Room, Held, HoldsNow}
use Rattle.lent_lists.specs.declared.Counts.{Counts}

-- what finding the sides of a list comes to
abbrev pub SidesFind : (width : ℕ) → List ℕ → ℕ → List ℕ → ℕ → List ℕ → Result (Unit {0}) ℕ → Type 0
SidesFind width face_keys m keys n sides found =
    (faces l : List Simplex) → Proper width faces → Keyed faces face_keys m → Proper (suc width) l → Keyed l keys n
    → SidesTold faces l sides n found

module _ (Y : Complex) (t_found s_found : Result (Unit {0}) ℕ) {e_keys t_keys s_keys t_sides s_sides : List ℕ} {e t s : ℕ}
    (room : Room (complex_of Y) e_keys t_keys s_keys t_sides s_sides)
    (edges : Keyed (simplices_of Y.edges) e_keys e)
    (triangles : Keyed (simplices_of Y.triangles) t_keys t)
    (tetrahedra : Keyed (simplices_of Y.tetrahedra) s_keys s)
    (triangle_sides : SidesFind 2 e_keys e t_keys t t_sides t_found)
    (tetrahedron_sides : SidesFind 3 t_keys t s_keys s s_sides s_found) where
  abbrev counts : Counts
  counts = record { edges = e; triangles = t; tetrahedra = s }

  module _ (sound : SoundComplex small (complex_of Y)) where
    edges-in : simplices_in 2 e_keys e ≡ simplices_of Y.edges
    edges-in = keyed-in 2 e_keys e (omega (arith, room.edges, edges.count)) (sound-proper sound.edges) edges

    triangles-in : simplices_in 3 t_keys t ≡ simplices_of Y.triangles
    triangles-in =
        keyed-in 3 t_keys t (omega (arith, room.triangles, triangles.count)) (sound-proper sound.triangles) triangles

    tetrahedra-in : simplices_in 4 s_keys s ≡ simplices_of Y.tetrahedra
    tetrahedra-in =
        keyed-in 4 s_keys s (omega (arith, room.tetrahedra, tetrahedra.count)) (sound-proper sound.tetrahedra) tetrahedra

    same : complex_in Y.v counts e_keys t_keys s_keys ≡ complex_of Y
    same = rw (edges-in, triangles-in, tetrahedra-in) refl

    held : Held Y.v counts e_keys t_keys s_keys t_sides s_sides
    held = record {
      sound = subst (SoundComplex small) (sym same) sound;
      room = subst (λ (X : format.Complex). Room X e_keys t_keys s_keys t_sides s_sides) (sym same) room;
      edges = subst (λ (l : List Simplex). Keyed l e_keys e) (sym edges-in) edges;
      triangles = subst (λ (l : List Simplex). Keyed l t_keys t) (sym triangles-in) triangles;
      tetrahedra = subst (λ (l : List Simplex). Keyed l s_keys s) (sym tetrahedra-in) tetrahedra;
      triangle_sides =
          subst₂ (λ (f l : List Simplex). Sided f l t_sides t) (sym edges-in) (sym triangles-in)
          (sides-closed t_found (triangle_sides _ _ (sound-proper sound.edges) edges (sound-proper sound.triangles) triangles) triangles.count
          (λ i lt. sound.triangles.closed _ (stands-listed _ (simplices_of Y.triangles) i (record { below = lt; here = refl }))));
      tetrahedron_sides =
          subst₂ (λ (f l : List Simplex). Sided f l s_sides s) (sym triangles-in) (sym tetrahedra-in)
          (sides-closed s_found (tetrahedron_sides _ _ (sound-proper sound.triangles) triangles (sound-proper sound.tetrahedra) tetrahedra)
          tetrahedra.count (λ i lt. sound.tetrahedra.closed _ (stands-listed _ (simplices_of Y.tetrahedra) i (record { below = lt; here = refl }))));
    }

  pub holding : HoldsNow (complex_of Y) counts e_keys t_keys s_keys t_sides s_sides
  holding = record { same = same; held = held }
