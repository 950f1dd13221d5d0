-- The complex that lent arrays hold: edges, triangles and tetrahedra as numbers by rank, and the sides of the latter two.
use Rattle.std.specs.Prelude.{ℕ, ◌≤◌, ◌≡◌, List, length, Result}
use Rattle.std.proofs.Common.{Ok}
use Rattle.format.specs.Numbers.{small}
use Rattle.format.specs.Simplex.{Complex, SimplexSet, simplices}
use Rattle.format.specs.Reading.{read_edits}
use Rattle.format.specs.Sound.{SoundComplex}
use Rattle.refusals.specs.Readings.{reading_of}
use Rattle.refusals.specs.declared.Refusal.{Refusal}
use Rattle.lists.specs.declared.Marks.{Marks}
use Rattle.lookup.specs.Indexed.{Keyed}
use Rattle.lookup.specs.Numbered.{simplices_in}
use Rattle.lookup.specs.Sides.{Sided}
use Rattle.complexes.specs.Meaning.{Marked}
use Rattle.lent_lists.specs.declared.Counts.{Counts}
use Rattle.lent_lists.specs.declared.Edited.{Edited}

-- the complex of v vertices whose lists the numbers stand for
abbrev pub complex_in : ℕ → Counts → List ℕ → List ℕ → List ℕ → Complex
complex_in v c edges triangles tetrahedra = record {
  v = v;
  edges = simplices_in 2 edges c.edges;
  triangles = simplices_in 3 triangles c.triangles;
  tetrahedra = simplices_in 4 tetrahedra c.tetrahedra;
}

-- a complex has so many simplices
pub record Counted (X : Complex) (v : ℕ) (c : Counts) : Type 0 where
  pub vertices : X.v ≡ v
  pub edges : length X.edges ≡ c.edges
  pub triangles : length X.triangles ≡ c.triangles
  pub tetrahedra : length X.tetrahedra ≡ c.tetrahedra

-- lent arrays with room for a complex: the numbers of edges (e), triangles (t) and tetrahedra (s), and the sides of the latter
pub record Room (X : Complex) (e_keys t_keys s_keys t_sides s_sides : List ℕ) : Type 0 where
  pub edges : length X.edges ≤ length e_keys
  pub triangles : length X.triangles ≤ length t_keys
  pub tetrahedra : length X.tetrahedra ≤ length s_keys
  pub triangle_sides : length X.triangles ≤ length t_sides
  pub tetrahedron_sides : length X.tetrahedra ≤ length s_sides

-- lists whose numbers the arrays have room for
pub record Roomy (c : Counts) (e_keys t_keys s_keys : List ℕ) : Type 0 where
  pub edges : (c.edges ≤ 512) × (c.edges ≤ length e_keys)
  pub triangles : (c.triangles ≤ 512) × (c.triangles ≤ length t_keys)
  pub tetrahedra : (c.tetrahedra ≤ 512) × (c.tetrahedra ≤ length s_keys)

-- the arrays hold a sound complex
pub record Held (v : ℕ) (c : Counts) (e_keys t_keys s_keys t_sides s_sides : List ℕ) : Type 0 where
  pub sound : SoundComplex small (complex_in v c e_keys t_keys s_keys)
  pub room : Room (complex_in v c e_keys t_keys s_keys) e_keys t_keys s_keys t_sides s_sides
  pub edges : Keyed (simplices_in 2 e_keys c.edges) e_keys c.edges
  pub triangles : Keyed (simplices_in 3 t_keys c.triangles) t_keys c.triangles
  pub tetrahedra : Keyed (simplices_in 4 s_keys c.tetrahedra) s_keys c.tetrahedra
  pub triangle_sides : Sided (simplices_in 2 e_keys c.edges) (simplices_in 3 t_keys c.triangles) t_sides c.triangles
  pub tetrahedron_sides : Sided (simplices_in 3 t_keys c.triangles) (simplices_in 4 s_keys c.tetrahedra) s_sides c.tetrahedra

-- what putting a complex into the arrays leaves: where it is sound, they hold it
pub record HoldsNow (X : Complex) (c : Counts) (e_keys t_keys s_keys t_sides s_sides : List ℕ) : Type 0 where
  pub same : SoundComplex small X → complex_in X.v c e_keys t_keys s_keys ≡ X
  pub held : SoundComplex small X → Held X.v c e_keys t_keys s_keys t_sides s_sides

-- What the edits of a file leave of the complex X and the marks of its simplices of dimension `dim`: the definition's
-- reading, and where nothing was refused the arrays hold the complex after all edits, and the marks mark the same set.
pub record EditsHeld (b : List ℕ) (at dim v : ℕ) (X : Complex) (marks : Marks) (e_keys t_keys s_keys t_sides s_sides : List ℕ) (r : Result Edited Refusal) : Type 0 where
  pub reading : read_edits 64 b at X ≡ reading_of (λ after. complex_in v after.counts e_keys t_keys s_keys) r
  pub held : (after : Edited) → r ≡ Ok after → Held v after.counts e_keys t_keys s_keys t_sides s_sides
  pub stay : (after : Edited) → r ≡ Ok after → (A : SimplexSet) → Marked marks.on (simplices X dim) A
      → Marked after.marks.on (simplices (complex_in v after.counts e_keys t_keys s_keys) dim) A
