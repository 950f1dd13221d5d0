-- `jobs::list_sizes` meets its contract: each record is looked for behind the one before.
-- Assumes nothing.
use Prim.Native.Nat.{ℕ, ◌+◌, ◌≤◌}
use native.Mathlib.Omega.{arith}
use mathlib.Core.Path.{◌≡◌, ◌∙◌, ap}
use mathlib.Core.List.{List}
use lib.ListN.{length}
use Rattle.stages.specs.Meaning.{size_at, end_at}
use Rattle.stages.proofs.Laws.{end-within}
use Rattle.jobs.proofs.list_sizes.Goals.{After-list_bytes-edges, After-list_bytes-triangles}
use Rattle.jobs.proofs.list_sizes.Goals as goal

-- each record ends within the file or a header further on, and no file fills the memory
edges-within : (job : List ℕ) → end_at job 10 2 ≤ length job + 16
edges-within job = end-within job 10 2 10 (omega arith)

triangles-within : (job : List ℕ) → end_at job (end_at job 10 2) 3 ≤ length job + 22
triangles-within job = end-within job (end_at job 10 2) 3 16 (edges-within job)

-- so the triangles' record stands behind that of the edges
behind-edges : (c : After-list_bytes-edges) → 10 + 6 + c.list_bytes-edges.result ≡ end_at c.args.job.now 10 2
behind-edges c = ap (λ (n : ℕ). 10 + 6 + n) c.list_bytes-edges.ensures

triangles-are : (c : After-list_bytes-triangles) → c.list_bytes-triangles.result ≡ size_at c.args.job.now (end_at c.args.job.now 10 2) 3
triangles-are c =
    c.list_bytes-triangles.ensures
    ∙ ap (λ (n : ℕ). size_at c.args.job.now n 3) (ap (λ (n : ℕ). 10 + 6 + n) c.list_bytes-edges.ensures)

pub overflow_add-behind_edges-2 : goal.overflow_add-behind_edges-2
overflow_add-behind_edges-2 c = omega (arith, behind-edges c, edges-within c.args.job.now, c.well_formed.0.0)

pub overflow_add-behind_triangles : goal.overflow_add-behind_triangles
overflow_add-behind_triangles c =
    omega (arith, behind-edges (goal.at.overflow_add-behind_triangles c).After-list_bytes-edges, edges-within c.args.job.now, c.well_formed.0.0)

pub overflow_add-behind_triangles-2 : goal.overflow_add-behind_triangles-2
overflow_add-behind_triangles-2 c =
    let past = goal.at.overflow_add-behind_triangles-2 c in
    omega (arith, behind-edges past.After-list_bytes-edges, triangles-are c, triangles-within c.args.job.now, c.well_formed.0.0)
