-- How many simplices lent arrays hold, and that they are few.
use Rattle.std.specs.Prelude.{ℕ, zero, suc, ◌≤◌, refl, List, length}
use Rattle.std.proofs.Common.{sym, arith}
use Rattle.format.specs.Numbers.{small}
use Rattle.format.specs.Simplex.{Complex, simplices}
use Rattle.format.specs.Sound.{SoundComplex}
use Rattle.format.specs.Vertices.{length-vertices}
use Rattle.lent_lists.specs.Held.{complex_in, Counted, Roomy, Held}
use Rattle.lent_lists.specs.declared.Counts.{Counts}

-- a sound complex has at most 512 simplices of each dimension
pub few-simplices : (X : Complex) → SoundComplex small X → (k : ℕ) → length (simplices X k) ≤ 512
unfolding simplices
few-simplices X sound zero = omega (arith, length-vertices X.v, sound.vertices)
few-simplices X sound (suc zero) = sound.few_edges
few-simplices X sound (suc (suc zero)) = sound.few_triangles
few-simplices X sound (suc (suc (suc zero))) = sound.few_tetrahedra
few-simplices X sound (suc (suc (suc (suc k)))) = omega arith

-- the arrays hold as many as the counts say
pub held-counted : {v : ℕ} {c : Counts} {e_keys t_keys s_keys t_sides s_sides : List ℕ}
    → Held v c e_keys t_keys s_keys t_sides s_sides → Counted (complex_in v c e_keys t_keys s_keys) v c
held-counted held = record {
  vertices = refl;
  edges = sym held.edges.count;
  triangles = sym held.triangles.count;
  tetrahedra = sym held.tetrahedra.count;
}

-- and the arrays have room for their lists
pub held-roomy : {v : ℕ} {c : Counts} {e_keys t_keys s_keys t_sides s_sides : List ℕ}
    → Held v c e_keys t_keys s_keys t_sides s_sides → Roomy c e_keys t_keys s_keys
held-roomy held =
    record {
      edges = (omega (arith, held.edges.count, held.sound.few_edges), omega (arith, held.edges.count, held.room.edges));
      triangles = (omega (arith, held.triangles.count, held.sound.few_triangles), omega (arith, held.triangles.count, held.room.triangles));
      tetrahedra = (omega (arith, held.tetrahedra.count, held.sound.few_tetrahedra), omega (arith, held.tetrahedra.count, held.room.tetrahedra));
    }
