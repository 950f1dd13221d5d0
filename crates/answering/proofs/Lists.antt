-- The lists that lent arrays hold, as the matrix that the solver asks for; and that the members of an answer are few enough
-- for the output.
use Prim.Native.Nat.{ℕ, zero, suc, ◌+◌, ◌-◌, ◌≤◌, ◌<◌}
use mathlib.Core.Path.{◌≡◌, refl, sym, ◌∙◌, ap, subst, subst₂}
use mathlib.Core.Bool.{Bool, true}
use mathlib.Core.List.{List, [], ◌∷◌}
use native.Mathlib.Omega.{arith}
use native.Mathlib.Numerals.{sub-one}
use lib.ListN.{length, get_or}
use Rattle.chains.specs.Chain.{Chain}
use Rattle.format.specs.Numbers.{small, answer_kind}
use Rattle.format.specs.Simplex.{Simplex, Complex, sound_simplex, rising_from, all_below, simplices, lower, vertex_list}
use Rattle.format.specs.Listed.{and-true}
use Rattle.format.specs.Lookup.{stands-listed}
use Rattle.format.specs.Answer.{members, vertices_of, record_of, chain_record}
use Rattle.format.specs.Sound.{SoundComplex}
use Rattle.format.specs.Marks.{vertices-once}
use Rattle.format.specs.Vertices.{length-vertices, vertex-at}
use Rattle.format.specs.Members.{members-listed, members-few, simplices-sound}
use Rattle.lookup.specs.Indexed.{Proper}
use Rattle.lookup.specs.IndexLaws.{proper-none, sound-proper}
use Rattle.lookup.specs.Numbered.{simplices_in}
use Rattle.lookup.specs.Sides.{Sided}
use Rattle.lookup.specs.EdgeSides.{edges-sided}
use Rattle.lent_lists.specs.Held.{complex_in, Held}
use Rattle.lent_lists.specs.HeldLaws.{few-simplices}
use Rattle.lent_lists.specs.declared.Counts.{Counts}
use Rattle.lists.specs.declared.Marks.{Marks}
use Rattle.solver.specs.Columns.{MatrixIn}
use Rattle.solver.specs.declared.Matrix.{Matrix}
use Rattle.solver.specs.Solved.{RimTold, no-rim}
use Rattle.writer.specs.Normal.{list-bytes}
use Rattle.answers.specs.Meaning.{member_bytes, chain_bytes}
use Rattle.answering.specs.Meaning.{of_dimension}

-- below the vertices there is no list; below dimension k stands the list of dimension k - 1
pub lower-none : (X : Complex) (dim : ℕ) → dim ≡ 0 → lower X dim ≡ []
unfolding lower
lower-none X dim e = rw e

pub lower-list : (X : Complex) (dim : ℕ) → 0 < dim → lower X dim ≡ simplices X (dim - 1)
unfolding lower
lower-list X zero h = absurd (omega arith)
lower-list X (suc k) h = ap (simplices X) (sym (sub-one (suc k)))

-- so the rim of a chain is looked for there
pub rim-none : (X : Complex) (dim : ℕ) (marks : Marks) → dim ≡ 0 → RimTold (lower X dim) (simplices X dim) marks true
rim-none X dim marks e = subst (λ (l : List Simplex). RimTold l (simplices X dim) marks true) (sym (lower-none X dim e)) (no-rim (simplices X dim) marks)

pub rim-below : (X : Complex) (dim : ℕ) {marks : Marks} {r : Bool} → 0 < dim
    → RimTold (simplices X (dim - 1)) (simplices X (dim - 1 + 1)) marks r → RimTold (lower X dim) (simplices X dim) marks r
rim-below X dim {marks} {r} some told =
    let up : dim - 1 + 1 ≡ dim = omega arith in
    subst₂ (λ (l : List Simplex) (k : ℕ). RimTold l (simplices X k) marks r) (sym (lower-list X dim some)) up told

-- the simplices of dimension k have k + 1 vertices each, and none stands twice
pub proper-list : (X : Complex) → SoundComplex small X → (k : ℕ) → Proper (suc k) (simplices X k)
unfolding simplices
proper-list X sound zero = record {
  wide = λ i lt. ap length (vertex-at X.v i (omega (arith, length-vertices X.v)));
  once = vertices-once X.v;
}
proper-list X sound (suc zero) = sound-proper sound.edges
proper-list X sound (suc (suc zero)) = sound-proper sound.triangles
proper-list X sound (suc (suc (suc zero))) = sound-proper sound.tetrahedra
proper-list X sound (suc (suc (suc (suc k)))) = proper-none (suc (suc (suc (suc (suc k)))))

-- and their vertices rise
pub rising-list : (X : Complex) → SoundComplex small X → (k i : ℕ) → i < length (simplices X k)
    → rising_from 0 (get_or (simplices X k) i []) ≡ true
unfolding sound_simplex
rising-list X sound k i lt =
    let s : Simplex = get_or (simplices X k) i [] in
    let at = stands-listed s (simplices X k) i (record { below = lt; here = refl }) in
    (and-true (rising_from 0 s) (all_below X.v s) (simplices-sound small X sound k s at).sound).0

ap₃ : {A B C D : Type 0} (f : A → B → C → D) {a a' : A} {b b' : B} {c c' : C} → a ≡ a' → b ≡ b' → c ≡ c' → f a b c ≡ f a' b' c'
ap₃ f p q r = rw (p, q, r) refl

-- as many vertices as there are of dimension 0 are all of them
pub vertices-are : (X : Complex) (dim m : ℕ) → dim ≡ 0 → m ≡ length (simplices X dim) → vertex_list m ≡ simplices X dim
unfolding simplices
vertices-are X dim m e is = ap vertex_list (is ∙ ap (λ (d : ℕ). length (simplices X d)) e ∙ length-vertices X.v) ∙ ap (simplices X) (sym e)

-- the complex that the arrays hold
abbrev pub complex_held : {v : ℕ} {c : Counts} {e_keys t_keys s_keys t_sides s_sides : List ℕ} → Held v c e_keys t_keys s_keys t_sides s_sides → Complex
complex_held {v} {c} {e_keys} {t_keys} {s_keys} held = complex_in v c e_keys t_keys s_keys

-- THE MATRIX of a dimension's list over the one below it, as the arrays hold it.
module _ {v : ℕ} {c : Counts} {e_keys t_keys s_keys t_sides s_sides : List ℕ} (held : Held v c e_keys t_keys s_keys t_sides s_sides) where
  abbrev X : Complex
  X = complex_in v c e_keys t_keys s_keys

  -- the sides of a list are ranks in the one below; those of edges are their own numbers
  pub sides-in : (dim n : ℕ) → dim ≤ 2 → n ≡ length (simplices X (suc dim))
      → Sided (simplices X dim) (simplices X (suc dim)) (of_dimension (suc dim) e_keys t_sides s_sides) n
  unfolding simplices
  sides-in zero n le e = subst (Sided (vertex_list v) X.edges e_keys) (held.edges.count ∙ sym e) (edges-sided held.sound.edges held.edges)
  sides-in (suc zero) n le e = subst (Sided X.edges X.triangles t_sides) (held.triangles.count ∙ sym e) held.triangle_sides
  sides-in (suc (suc zero)) n le e = subst (Sided X.triangles X.tetrahedra s_sides) (held.tetrahedra.count ∙ sym e) held.tetrahedron_sides
  sides-in (suc (suc (suc k))) n le e = absurd (omega arith)

  -- and there is room for them
  pub sides-fit : (dim n : ℕ) → dim ≤ 2 → n ≡ length (simplices X (suc dim)) → n ≤ length (of_dimension (suc dim) e_keys t_sides s_sides)
  unfolding simplices
  sides-fit zero n le e = omega (arith, e, held.room.edges)
  sides-fit (suc zero) n le e = omega (arith, e, held.room.triangle_sides)
  sides-fit (suc (suc zero)) n le e = omega (arith, e, held.room.tetrahedron_sides)
  sides-fit (suc (suc (suc k))) n le e = absurd (omega arith)

  -- the numbers stand for the list: R is the array of the dimension, w its width
  pub numbers-list : (dim w n : ℕ) {R : List ℕ} → R ≡ of_dimension dim e_keys t_keys s_keys → w ≡ suc dim → 0 < dim → dim ≤ 3
      → n ≡ length (simplices X dim) → simplices_in w R n ≡ simplices X dim
  unfolding simplices
  numbers-list zero w n r is some le e = absurd (omega arith)
  numbers-list (suc zero) w n r is some le e = ap₃ simplices_in is r (e ∙ sym held.edges.count)
  numbers-list (suc (suc zero)) w n r is some le e = ap₃ simplices_in is r (e ∙ sym held.triangles.count)
  numbers-list (suc (suc (suc zero))) w n r is some le e = ap₃ simplices_in is r (e ∙ sym held.tetrahedra.count)
  numbers-list (suc (suc (suc (suc k)))) w n r is some le e = absurd (omega arith)

  -- and has room for it
  pub numbers_fit : (dim n : ℕ) {R : List ℕ} → R ≡ of_dimension dim e_keys t_keys s_keys → 0 < dim → dim ≤ 3 → n ≡ length (simplices X dim) → n ≤ length R
  unfolding simplices
  numbers_fit zero n r some le e = absurd (omega arith)
  numbers_fit (suc zero) n r some le e = omega (arith, e, ap length r, held.room.edges)
  numbers_fit (suc (suc zero)) n r some le e = omega (arith, e, ap length r, held.room.triangles)
  numbers_fit (suc (suc (suc zero))) n r some le e = omega (arith, e, ap length r, held.room.tetrahedra)
  numbers_fit (suc (suc (suc (suc k)))) n r some le e = absurd (omega arith)

  -- its sides are the array of the dimension
  unfoldable pub matrix-in : (dim : ℕ) (matrix : Matrix) → matrix.sides.now ≡ of_dimension (dim + 1) e_keys t_sides s_sides → dim ≤ 2
      → matrix.rows ≡ length (simplices X dim) → matrix.columns ≡ length (simplices X (dim + 1)) → matrix.width ≡ dim + 2
      → MatrixIn 64 matrix
  matrix-in dim matrix s le rows_are columns-are as_wide =
      let up : suc dim ≡ dim + 1 = omega arith in
      record {
        rows = simplices X dim;
        high = simplices X (dim + 1);
        row_count = rows_are;
        count = columns-are;
        wide = λ i lt. (proper-list X held.sound (dim + 1)).wide i (omega arith) ∙ omega arith;
        some = omega arith;
        most = omega arith;
        rising = λ i lt. rising-list X held.sound (dim + 1) i (omega arith);
        sided =
            subst₂ (λ (k : ℕ) (a : List ℕ). Sided (simplices X dim) (simplices X k) a matrix.columns) up
            (ap (λ (k : ℕ). of_dimension k e_keys t_sides s_sides) up ∙ sym s)
            (sides-in dim matrix.columns le (columns-are ∙ ap (λ (k : ℕ). length (simplices X k)) (sym up)));
        few_rows = few-simplices X held.sound dim;
        few_columns = few-simplices X held.sound (dim + 1);
        room =
            omega (
              arith,
              sides-fit dim matrix.columns le (columns-are ∙ ap (λ (k : ℕ). length (simplices X k)) (sym up)),
              ap length (s ∙ ap (λ (k : ℕ). of_dimension k e_keys t_sides s_sides) (sym up)),
            );
      }

-- the bytes of a chain's members are their vertices
member-bytes : (X : Complex) → SoundComplex small X → (k : ℕ) (c : Chain) → member_bytes c (simplices X k) ≡ vertices_of (members c (simplices X k))
member-bytes X sound k c =
    list-bytes X.v (members c (simplices X k)) sound.vertices
    (λ s h. (simplices-sound small X sound k s (members-listed 0 c (simplices X k) s h)).sound)

pub chain-bytes : (X : Complex) → SoundComplex small X → (k d : ℕ) (c : Chain) → chain_bytes d c (simplices X k) ≡ chain_record d (simplices X k) c
unfolding chain_record
chain-bytes X sound k d c = ap (λ b. record_of answer_kind (d ∷ b)) (member-bytes X sound k c)

-- and at most 2,048 of them
pub members-room : (X : Complex) → SoundComplex small X → (k : ℕ) (l : List Simplex) → l ≡ simplices X k → (c : Chain) → 7 + length (member_bytes c l) ≤ 2055
members-room X sound k l e c =
    subst (λ m. 7 + length (member_bytes c m) ≤ 2055) (sym e)
    (omega (arith, ap length (member-bytes X sound k c), members-few 4 0 c (simplices X k) (λ s h. (simplices-sound small X sound k s h).few), few-simplices X sound k))
