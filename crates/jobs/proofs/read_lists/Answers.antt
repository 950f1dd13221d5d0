-- `jobs::read_lists` meets its contract: each list is read over the one below, which is entered and known to be sound.
-- Assumes nothing.
use Prim.Native.Nat.{ℕ}
use mathlib.Core.Path.{◌≡◌, sym, ◌∙◌, ap, subst}
use mathlib.Core.List.{List, []}
use native.Mathlib.Omega.{arith}
use lib.ListN.{length}
use Rattle.format.specs.Numbers.{small}
use Rattle.format.specs.Simplex.{Simplex}
use Rattle.format.specs.Reading.{accepted, read_list}
use Rattle.std.proofs.Common.{Ok, Err}
use Rattle.lookup.specs.Indexed.{Indexed}
use Rattle.lookup.specs.Numbered.{simplices_in}
use Rattle.refusals.specs.Readings.{refused_by, reading_of, handed_up, same_read}
use Rattle.refusals.specs.declared.Refusal.{Refusal}
use Rattle.reading_lists.specs.Items.{FacesIn}
use Rattle.stages.specs.Meaning.{end_at, RoomAt, listing_of, list_read, ListTaken, TakenList, SidedList, FacesFound}
use Rattle.stages.specs.declared.ListRead.{ListRead}
use Rattle.stages.specs.declared.Taken.{Taken}
use Rattle.stages.proofs.Laws.{edges-read}
use Rattle.lent_lists.specs.Held.{Held}
use Rattle.jobs.specs.Meaning.{ListSound, ListHeld}
use Rattle.jobs.specs.declared.ListsRead.{ListsRead}
use Rattle.jobs.proofs.Laws.{list-known, faces-in, no-faces, complex-sound, lists-told-refused, no_edges, no-triangles, no-tetrahedra, all-lists}
use Rattle.jobs.proofs.read_lists.Goals.{In_ok-edges, In_ok-taken, After-find_faces-found, After-read_tetrahedra}
use Rattle.jobs.proofs.read_lists.Goals as goal

-- an index of so many simplices is one of as many
counted : (width : ℕ) {n m : ℕ} {keys first next : List ℕ} → n ≡ m → Indexed (simplices_in width keys n) keys first next n
    → Indexed (simplices_in width keys m) keys first next m
counted width {keys = keys} {first = first} {next = next} = subst (λ (k : ℕ). Indexed (simplices_in width keys k) keys first next k)

-- THE EDGES were taken, over no list.
module _ {b : List ℕ} {at v : ℕ} {keys first next : List ℕ} {edges : Taken} (read : TakenList b at 2 v keys first next edges) where
  edges-told : reading_of (λ _. record { list = simplices_in 2 keys edges.count; next = edges.next }) edges.verdict ≡ read_list small b at 2 v []
  edges-told = edges-read read.items [] (no-faces v keys).sound (omega arith)

  edges-refused : {e : Refusal} → edges.verdict ≡ Err e → read_list small b at 2 v [] ≡ refused_by e
  edges-refused is = sym edges-told ∙ ap (reading_of _) is

  -- and none of them was refused
  module _ (fine : edges.verdict ≡ Ok tt) where
    edges-fine : read_list small b at 2 v [] ≡ accepted (record { list = simplices_in 2 keys edges.count; next = edges.next })
    edges-fine = sym edges-told ∙ ap (reading_of _) fine

    edges-known : ListSound 2 v [] (simplices_in 2 keys edges.count)
    edges-known = list-known b at 2 v _ _ (omega arith) edges-fine

    -- they are the faces of triangles
    under-triangles : FacesIn 3 v (simplices_in 2 keys edges.count) keys edges.count
    under-triangles = faces-in 3 _ edges-known read.items.indexed

edges : (c : In_ok-edges) → let a = c.args in
    TakenList a.job.now a.at 2 a.v c.read_list.new.keys c.read_list.new.first c.read_list.new.next c.in_ok-edges.edges
edges c =
    let a = c.args in
    subst (ListTaken a.job.now a.at 2 a.v c.read_list.new.keys c.read_list.new.first c.read_list.new.next) c.in_ok-edges.was c.read_list.ensures

pub returns-in_err-edges : goal.returns-in_err-edges
returns-in_err-edges c =
    let a = c.args in
    let told = subst (ListTaken a.job.now a.at 2 a.v c.read_list.new.keys c.read_list.new.first c.read_list.new.next) c.in_err-edges.was c.read_list.ensures in
    rw (handed_up c.from_residual.result c.from_residual.ensures.1)
    (lists-told-refused _ (no_edges a.job.now a.at a.v _ _ (told.reads [])))

pub returns-in_err-edges-2 : goal.returns-in_err-edges-2
returns-in_err-edges-2 c =
    let a = c.args in
    let up = c.from_residual-in_err-edges-2 in
    rw (handed_up up.result up.ensures.1)
    (lists-told-refused _
    (no_edges a.job.now a.at a.v _ _ (edges-refused (edges (goal.at.returns-in_err-edges-2 c).In_ok-edges) c.in_err-edges-2.was)))

-- THE TRIANGLES were taken, and their facets looked up among the edges.
triangles : (c : In_ok-taken) → let a = c.args in
    TakenList a.job.now c.in_ok-edges.edges.next 3 a.v c.read_list-2.new.keys c.read_list-2.new.first c.read_list-2.new.next c.in_ok-taken.taken
triangles c =
    let a = c.args in
    subst (ListTaken a.job.now c.in_ok-edges.edges.next 3 a.v c.read_list-2.new.keys c.read_list-2.new.first c.read_list-2.new.next) c.in_ok-taken.was
    c.read_list-2.ensures

module _ {b : List ℕ} {at v : ℕ} {faces : List Simplex} {keys first next sides : List ℕ} {taken : Taken} {l : ListRead}
    (read : TakenList b at 3 v keys first next taken) (reads : read_list small b at 3 v faces ≡ accepted (listing_of 3 keys l))
    (found : SidedList faces 3 keys sides taken l) where
  triangles-indexed : Indexed (simplices_in 3 keys l.count) keys first next l.count
  triangles-indexed = counted 3 (sym found.count) read.items.indexed

  triangles-known : ListSound 3 v faces (simplices_in 3 keys l.count)
  triangles-known = list-known b at 3 v _ _ (omega arith) reads

  -- they are the faces of tetrahedra
  under-tetrahedra : FacesIn 4 v (simplices_in 3 keys l.count) keys l.count
  under-tetrahedra = faces-in 4 _ triangles-known triangles-indexed

  -- which stand behind them
  triangles-end : l.next ≡ end_at b at 3
  triangles-end = found.next ∙ read.ends

pub returns-in_err-taken : goal.returns-in_err-taken
returns-in_err-taken c =
    let a = c.args in
    let up = c.from_residual-in_err-taken in
    let told =
    subst (ListTaken a.job.now c.in_ok-edges.edges.next 3 a.v c.read_list-2.new.keys c.read_list-2.new.first c.read_list-2.new.next) c.in_err-taken.was c.read_list-2.ensures in
    rw (handed_up up.result up.ensures.1)
    (lists-told-refused _
    (no-triangles a.job.now a.at a.v _ (edges-fine (edges (goal.at.returns-in_err-taken c).In_ok-edges) c.in_ok-edges-2.was) _ _ (told.reads _)))

-- what their look-up came to, over the edges
module _ (c : After-find_faces-found) (e : let a = c.args in TakenList a.job.now a.at 2 a.v c.read_list.new.keys c.read_list.new.first c.read_list.new.next c.in_ok-edges.edges)
    (t : let a = c.args in TakenList a.job.now c.in_ok-edges.edges.next 3 a.v c.read_list-2.new.keys c.read_list-2.new.first c.read_list-2.new.next c.in_ok-taken.taken) where
  looked : let a = c.args in
      FacesFound a.job.now c.in_ok-edges.edges.next 3 a.v (simplices_in 2 c.read_list.new.keys c.in_ok-edges.edges.count)
      c.read_list-2.new.keys c.find_faces-found.new.sides c.in_ok-taken.taken c.find_faces-found.result
  looked = c.find_faces-found.ensures _ _ t.items _ (under-triangles e c.in_ok-edges-2.was)

pub returns-in_err-triangles : goal.returns-in_err-triangles
returns-in_err-triangles c =
    let a = c.args in
    let up = c.from_residual-in_err-triangles in
    let at = goal.at.returns-in_err-triangles c in
    let e = edges at.In_ok-edges in
    rw (handed_up up.result up.ensures.1)
    (lists-told-refused _
    (no-triangles a.job.now a.at a.v _ (edges-fine e c.in_ok-edges-2.was) _ _
    (sym (looked at.After-find_faces-found e (triangles at.In_ok-taken)).reads ∙ ap (list_read 3 c.read_list-2.new.keys) c.in_err-triangles.was)))

pub read_tetrahedra-requires : goal.read_tetrahedra-requires
read_tetrahedra-requires c =
    let a = c.args in
    let room = c.requires.file_room in
    let at = goal.at.read_tetrahedra-requires c in
    let e = edges at.In_ok-edges in
    let t = triangles at.In_ok-taken in
    let l = looked at.After-find_faces-found e t in
    let reads = sym l.reads ∙ ap (list_read 3 c.read_list-2.new.keys) c.in_ok-triangles.was in
    let found = l.found _ c.in_ok-triangles.was in
    record {
      room_at =
          subst (λ (n : ℕ). RoomAt a.job.now n 4 (length a.s_keys.now))
          (sym (triangles-end t reads found ∙ ap (λ (n : ℕ). end_at a.job.now n 3) e.ends)) room.tetrahedra;
      s_keys_in_bounds = room.tetrahedron_sides;
      chained = (triangles-indexed t reads found).chained;
      m_bound = omega (arith, found.count, t.items.few);
    }

-- THE TETRAHEDRA were read over the triangles.
module _ (c : After-read_tetrahedra)
    (f : let a = c.args in FacesIn 4 a.v (simplices_in 3 c.read_list-2.new.keys c.in_ok-triangles.triangles.count) c.read_list-2.new.keys c.in_ok-triangles.triangles.count) where
  held-over : let a = c.args in
      ListHeld a.job.now c.in_ok-triangles.triangles.next 4 a.v (simplices_in 3 c.read_list-2.new.keys c.in_ok-triangles.triangles.count)
      c.read_tetrahedra.new.s_keys c.read_tetrahedra.new.s_sides c.read_tetrahedra.result
  held-over = c.read_tetrahedra.ensures _ f

pub returns-in_err-tetrahedra : goal.returns-in_err-tetrahedra
returns-in_err-tetrahedra c =
    let a = c.args in
    let up = c.from_residual-in_err-tetrahedra in
    let at = goal.at.returns-in_err-tetrahedra c in
    let e = edges at.In_ok-edges in
    let t = triangles at.In_ok-taken in
    let l = looked at.After-find_faces-found e t in
    let reads = sym l.reads ∙ ap (list_read 3 c.read_list-2.new.keys) c.in_ok-triangles.was in
    let found = l.found _ c.in_ok-triangles.was in
    let h = held-over at.After-read_tetrahedra (under-tetrahedra t reads found) in
    rw (handed_up up.result up.ensures.1)
    (lists-told-refused _
    (no-tetrahedra a.job.now a.at a.v _ (edges-fine e c.in_ok-edges-2.was) _ reads _ _
    (sym h.reads ∙ ap (list_read 4 c.read_tetrahedra.new.s_keys) c.in_err-tetrahedra.was)))

pub returns : goal.returns
returns c =
    let a = c.args in
    let v = a.v in
    let room = c.requires.file_room in
    let at = goal.at.returns c in
    let e = edges at.In_ok-edges in
    let t = triangles at.In_ok-taken in
    let l = looked at.After-find_faces-found e t in
    let reads = sym l.reads ∙ ap (list_read 3 c.read_list-2.new.keys) c.in_ok-triangles.was in
    let found = l.found _ c.in_ok-triangles.was in
    let indexed = triangles-indexed t reads found in
    let h = held-over at.After-read_tetrahedra (under-tetrahedra t reads found) in
    let fine = c.in_ok-tetrahedra.was in
    let listed = sym h.reads ∙ ap (list_read 4 c.read_tetrahedra.new.s_keys) fine in
    record {
      reads = all-lists a.job.now a.at v _ (edges-fine e c.in_ok-edges-2.was) _ reads _ listed;
      held = λ r is few.
          subst
          (λ (x : ListsRead). Held v x.counts c.read_list.new.keys c.read_list-2.new.keys c.read_tetrahedra.new.s_keys c.find_faces-found.new.sides c.read_tetrahedra.new.s_sides)
          (same_read is) (record {
            sound =
                complex-sound v _ _ _ few (edges-known e c.in_ok-edges-2.was) (triangles-known t reads found)
                (list-known a.job.now c.in_ok-triangles.triangles.next 4 v _ _ (omega arith) listed);
            room = record {
              edges = omega (arith, e.items.indexed.chained.keyed, e.items.indexed.keyed.count);
              triangles = omega (arith, indexed.chained.keyed, indexed.keyed.count);
              tetrahedra = omega (arith, h.within _ fine, (h.keyed _ fine).count);
              triangle_sides =
                  omega (
                    arith,
                    indexed.chained.keyed,
                    indexed.keyed.count,
                    room.triangle_sides,
                    c.read_list-2.auto.keys,
                    c.find_faces-found.auto.sides,
                  );
              tetrahedron_sides =
                  omega (
                    arith,
                    h.within _ fine,
                    (h.keyed _ fine).count,
                    room.tetrahedron_sides,
                    c.read_tetrahedra.auto.s_keys,
                    c.read_tetrahedra.auto.s_sides,
                  );
            };
            edges = e.items.indexed.keyed;
            triangles = indexed.keyed;
            tetrahedra = h.keyed _ fine;
            triangle_sides = found.sided;
            tetrahedron_sides = h.sided _ fine;
          });
      linked = λ r is.
          subst
          (λ (x : ListsRead). Indexed (simplices_in 2 c.read_list.new.keys x.counts.edges) c.read_list.new.keys c.read_list.new.first c.read_list.new.next x.counts.edges)
          (same_read is) e.items.indexed;
    }
