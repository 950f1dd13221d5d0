-- What each stage's verdict comes to: a refusal is the whole reading's, and otherwise the rest of the definition follows.
use Prim.Native.Nat.{ℕ, ◌-◌, ◌≤◌, ◌<◌}
use mathlib.Core.Path.{◌≡◌, refl, sym, ◌∙◌, ap, subst, fun_ext}
use mathlib.Core.Bool.{false, false≢true}
use mathlib.Core.List.{List, []}
use native.Mathlib.Omega.{arith}
use lib.ListN.{length}
use lib.Dec.{eqb}
use borrow.Author.Tests.{le-ltb, eq-eqb, ne_eqb}
use Rattle.format.specs.Numbers.{small, shape, head_kind, edges_kind, triangles_kind, tetrahedra_kind}
use Rattle.format.specs.Simplex.{Simplex, SimplexSet, listed, simplices}
use Rattle.format.specs.Simplex as format
use Rattle.format.specs.Reading.{Reading, ◌and_then◌, accepted, refused, Listing, Chosen, read_list, read_chain, read_edits, read_head, after_head, after_lists, reading, head_fits, payload_at, chain_dimension, question_of}
use Rattle.format.specs.Reading as reader
use Rattle.format.specs.Opened.{opened, record-opened, opened_inside, payload-long}
use Rattle.format.specs.Sound.{SoundComplex}
use Rattle.format.proofs.Accepted.{head-sound, list-sound}
use Rattle.format.specs.Marks.{simplices-once}
use Rattle.format.specs.Answer.{rows}
use Rattle.std.specs.Prelude.{Result}
use Rattle.std.proofs.Common.{Ok, Err}
use Rattle.refusals.specs.Readings.{refused_by, reading_of, reading-then, told, not_read, same_read}
use Rattle.refusals.specs.declared.Refusal.{Refusal}
use Rattle.heads.specs.declared.Head.{Head}
use Rattle.heads.specs.Meaning.{head_of, HeadKnown}
use Rattle.lookup.specs.Indexed.{Keyed, Indexed}
use Rattle.lookup.specs.IndexLaws.{sound-proper, proper-none}
use Rattle.lookup.specs.Numbered.{simplices_in}
use Rattle.lookup.specs.NumberedLaws.{none_in}
use Rattle.reading_lists.specs.Items.{FacesIn}
use Rattle.stages.specs.Meaning.{NothingRead}
use Rattle.stages.specs.declared.ListRead.{ListRead}
use Rattle.complexes.specs.Meaning.{Marked}
use Rattle.lent_lists.specs.Held.{complex_in, Held, EditsHeld}
use Rattle.lent_lists.specs.declared.Counts.{Counts}
use Rattle.lent_lists.specs.declared.Edited.{Edited}
use Rattle.chain_stage.specs.Meaning.{ChainStageRead}
use Rattle.chain_stage.specs.declared.ChainStage.{ChainStage}
use Rattle.jobs.specs.Meaning.{SoundHead, ListSound, ListHeld, Lists, read_lists, lists_in, ListsTold, job_in, Unedited, Told}
use Rattle.jobs.specs.declared.NumbersRead.{NumbersRead}
use Rattle.jobs.specs.declared.ListsRead.{ListsRead}

-- A REFUSAL of a stage is the outcome.
pub unedited-refused : {r : Reading reader.Job} {b e_keys t_keys s_keys t_sides s_sides : List ℕ} (e : Refusal) → r ≡ refused_by e
    → Unedited r b e_keys t_keys s_keys t_sides s_sides (Err e)
unedited-refused e is = record {
  set = λ s. false;
  is = is;
  held = λ j f. absurd (not_read f);
  marks = λ j f. absurd (not_read f);
  head = λ j f. absurd (not_read f);
}

-- what is read as one thing is read as what that is
pub unedited-same : {r s : Reading reader.Job} {b e_keys t_keys s_keys t_sides s_sides : List ℕ} (j : Result NumbersRead Refusal) → r ≡ s
    → Unedited s b e_keys t_keys s_keys t_sides s_sides j → Unedited r b e_keys t_keys s_keys t_sides s_sides j
unedited-same {b = b} {e_keys = e_keys} {t_keys = t_keys} {s_keys = s_keys} {t_sides = t_sides} {s_sides = s_sides} j e o =
    subst (λ (x : Reading reader.Job). Unedited x b e_keys t_keys s_keys t_sides s_sides j) (sym e) o

pub list-known : (b : List ℕ) (at kind v : ℕ) (faces : List Simplex) (l : Listing) → 0 < kind → read_list small b at kind v faces ≡ accepted l → ListSound kind v faces l.list
list-known b at kind v faces l positive e =
    let known = list-sound small b at kind v faces l positive e in
    record { sound = known.0; few = known.1 }

-- AN INDEX of a list that was read serves the reading of the list above it.
pub faces-in : (width : ℕ) {v n : ℕ} {faces : List Simplex} (l : List Simplex) {keys first next : List ℕ} → ListSound (width - 1) v faces l
    → Indexed l keys first next n → FacesIn width v l keys n
faces-in width l known indexed = record { sound = known.sound.sound; proper = sound-proper known.sound; keyed = indexed.keyed }

-- no list lies below the edges
pub no-faces : (v : ℕ) (keys : List ℕ) → FacesIn 2 v [] keys 0
unfolding listed
no-faces v keys = record { sound = λ f e. absurd (false≢true e); proper = proper-none 1; keyed = record { count = refl; own = λ i lt. absurd (omega arith) } }

-- A LIST THAT HAS NO ITEMS is held by any arrays.
pub nothing-held : {b : List ℕ} {at kind v : ℕ} {faces : List Simplex} {keys sides : List ℕ} {r : Result ListRead Refusal} → NothingRead b at kind r
    → ListHeld b at kind v faces keys sides r
nothing-held {kind = kind} {v = v} {faces = faces} {keys = keys} read = record {
  reads = read.reads v faces keys;
  keyed = λ l f.
      subst (λ (n : ℕ). Keyed (simplices_in kind keys n) keys n) (sym (read.none l f))
      (record { count = ap length (sym (none_in kind keys)); own = λ i lt. absurd (omega arith) });
  within = λ l f. omega (arith, read.none l f);
  sided = λ l f. record { own = λ i lt. absurd (omega (arith, read.none l f)) };
}

-- THE LISTS, one over the other, by what was read of each.
module _ (b : List ℕ) (at v : ℕ) where
  pub no_edges : (n p : ℕ) → read_list small b at edges_kind v [] ≡ refused n p → read_lists b at v ≡ refused n p
  unfolding read_lists
  no_edges n p e = rw e

  module _ (edges : Listing) (some : read_list small b at edges_kind v [] ≡ accepted edges) where
    pub no-triangles : (n p : ℕ) → read_list small b edges.next triangles_kind v edges.list ≡ refused n p → read_lists b at v ≡ refused n p
    unfolding read_lists
    no-triangles n p e = rw (some, e)

    module _ (triangles : Listing) (more : read_list small b edges.next triangles_kind v edges.list ≡ accepted triangles) where
      pub no-tetrahedra : (n p : ℕ) → read_list small b triangles.next tetrahedra_kind v triangles.list ≡ refused n p → read_lists b at v ≡ refused n p
      unfolding read_lists
      no-tetrahedra n p e = rw (some, more, e)

      pub all-lists : (l : Listing) → read_list small b triangles.next tetrahedra_kind v triangles.list ≡ accepted l
          → read_lists b at v ≡ accepted (record {
            complex = record { v = v; edges = edges.list; triangles = triangles.list; tetrahedra = l.list };
            next = l.next;
          })
      unfolding read_lists
      all-lists l e = rw (some, more, e)

then-assoc : {A B C : Type 0} (r : Reading A) (f : A → Reading B) (g : B → Reading C) → ((r and_then f) and_then g) ≡ (r and_then λ a. f a and_then g)
then-assoc (accepted a) f g = refl
then-assoc (refused n p) f g = refl

-- THE STAGES of the definition, one behind the other.
module _ (b : List ℕ) (at : ℕ) (h : reader.Head) where
  -- the lists are read first, and then the rest
  pub lists-first : after_head small b at h ≡ (read_lists b at h.v and_then λ l. after_lists small b h l.next l.complex)
  unfolding after_head read_lists
  lists-first =
      sym
      (then-assoc (read_list small b at edges_kind h.v []) _ rest
      ∙ ap (λ (f : Listing → Reading reader.Job). read_list small b at edges_kind h.v [] and_then f)
      (fun_ext λ e. then-assoc (read_list small b e.next triangles_kind h.v e.list) _ rest
      ∙ ap (λ (f : Listing → Reading reader.Job). read_list small b e.next triangles_kind h.v e.list and_then f)
      (fun_ext λ t. then-assoc (read_list small b t.next tetrahedra_kind h.v t.list) _ rest)))
    where
      rest : Lists → Reading reader.Job
      rest l = after_lists small b h l.next l.complex

  -- so a refusal among them is the outcome, and otherwise the rest is
  module _ {e_keys e_first e_next t_keys s_keys t_sides s_sides : List ℕ} {r : Result ListsRead Refusal}
      (told : ListsTold b at h.v e_keys e_first e_next t_keys s_keys t_sides s_sides r) where
    then_rest : after_head small b at h
        ≡ (reading_of (lists_in h.v e_keys t_keys s_keys) r and_then λ l. after_lists small b h l.next l.complex)
    then_rest = lists-first ∙ ap (λ x. x and_then λ l. after_lists small b h l.next l.complex) told.reads

    pub lists-refused : (e : Refusal) → r ≡ Err e → after_head small b at h ≡ refused_by e
    lists-refused e is = then_rest ∙ ap (λ x. reading_of (lists_in h.v e_keys t_keys s_keys) x and_then λ l. after_lists small b h l.next l.complex) is

    pub lists-fine : (l : ListsRead) → r ≡ Ok l → after_head small b at h ≡ after_lists small b h l.next (complex_in h.v l.counts e_keys t_keys s_keys)
    lists-fine l is = then_rest ∙ ap (λ x. reading_of (lists_in h.v e_keys t_keys s_keys) x and_then λ l. after_lists small b h l.next l.complex) is

-- THE HEAD'S RECORD.
module _ (b : List ℕ) where
  module _ (fits : length b ≤ 6690) where
    pub head-refused : (number place : ℕ) → opened (eqb head_kind) b 0 ≡ refused number place → reading small b ≡ refused number place
    unfolding reading
    head-refused number place e = rw (le-ltb 6690 (length b) fits, record-opened head_fits b 0 head_kind, e)

    module _ (size : ℕ) (whole : opened (eqb head_kind) b 0 ≡ accepted size) where
      long : length (payload_at b 0 size) ≡ size
      long = payload-long b 0 size (opened_inside (eqb head_kind) b 0 size whole)

      pub head-misshapen : (size ≡ 4 → ⊥) → reading small b ≡ refused shape 0
      unfolding reading
      head-misshapen n = rw (le-ltb 6690 (length b) fits, record-opened head_fits b 0 head_kind, whole, long, ne_eqb size 4 n)

      pub head-bad : size ≡ 4 → (number place : ℕ) → read_head small (payload_at b 0 size) ≡ refused number place → reading small b ≡ refused number place
      unfolding reading
      head-bad n number place e = rw (le-ltb 6690 (length b) fits, record-opened head_fits b 0 head_kind, whole, long, eq-eqb size 4 n, e)

      pub head-fine : size ≡ 4 → (h : reader.Head) → read_head small (payload_at b 0 size) ≡ accepted h → reading small b ≡ after_head small b 10 h
      unfolding reading
      head-fine n h e = rw (le-ltb 6690 (length b) fits, record-opened head_fits b 0 head_kind, whole, long, eq-eqb size 4 n, e, n)

-- WHAT IS ASKED ABOUT stands before the edits.
module _ (b : List ℕ) (at dim : ℕ) (head : Head) (counts : Counts) (e_keys t_keys s_keys : List ℕ) {r : Result ChainStage Refusal}
    (e : dim ≡ chain_dimension (question_of head.question) head.d)
    (read : ChainStageRead b at dim (complex_in head.v counts e_keys t_keys s_keys) r) where
  -- a set as what is asked about, and the edits behind it
  abbrev chosen : ChainStage → Chosen
  chosen asked = record { chain = read.set; next = asked.next }

  abbrev rest : Chosen → Reading reader.Job
  rest A =
      read_edits 64 b A.next (complex_in head.v counts e_keys t_keys s_keys) and_then λ Y.
      accepted (record { question = question_of head.question; d = head.d; complex = Y; chain = A.chain })

  then_edits : after_lists small b (head_of head) at (complex_in head.v counts e_keys t_keys s_keys) ≡ (reading_of chosen r and_then rest)
  unfolding after_lists
  then_edits =
      ap (λ (x : Reading Chosen). x and_then rest)
      (ap (λ (k : ℕ). read_chain small b at k (complex_in head.v counts e_keys t_keys s_keys)) (sym e) ∙ read.reading)

  module _ {t_sides s_sides : List ℕ} where
    pub chain_refused : (x : Refusal) → r ≡ Err x
        → Unedited (after_lists small b (head_of head) at (complex_in head.v counts e_keys t_keys s_keys)) b e_keys t_keys s_keys t_sides s_sides (Err x)
    chain_refused x is = unedited-refused x (then_edits ∙ ap (λ y. reading_of chosen y and_then rest) is)

    pub chain-asked : (asked : ChainStage) → r ≡ Ok asked → SoundHead head → Held head.v counts e_keys t_keys s_keys t_sides s_sides
        → Unedited (after_lists small b (head_of head) at (complex_in head.v counts e_keys t_keys s_keys)) b e_keys t_keys s_keys t_sides s_sides
        (Ok (record { head = head; counts = counts; marks = asked.marks; next = asked.next }))
    chain-asked asked is known held = record {
      set = read.set;
      is = then_edits ∙ ap (λ y. reading_of chosen y and_then rest) is;
      held = λ j f. subst (λ (x : NumbersRead). Held x.head.v x.counts e_keys t_keys s_keys t_sides s_sides) (same_read f) held;
      marks = λ j f.
          subst (λ (x : NumbersRead). Marked x.marks.on (rows (job_in x e_keys t_keys s_keys read.set)) read.set) (same_read f)
          (subst (λ (k : ℕ). Marked asked.marks.on (simplices (complex_in head.v counts e_keys t_keys s_keys) k) read.set) e
          (read.marks asked is (simplices-once small (complex_in head.v counts e_keys t_keys s_keys) held.sound dim)));
      head = λ j f. subst (λ (x : NumbersRead). SoundHead x.head) (same_read f) known;
    }

-- THE EDITS, behind a job that was read up to them.
module _ {r : Reading reader.Job} {b e_keys t_keys s_keys t_sides s_sides : List ℕ} {j : NumbersRead}
    (u : Unedited r b e_keys t_keys s_keys t_sides s_sides (Ok j))
    {dim : ℕ} (e : dim ≡ chain_dimension (question_of j.head.question) j.head.d)
    {done : Result Edited Refusal} {e_keys' t_keys' s_keys' t_sides' s_sides' : List ℕ}
    (taken : EditsHeld b j.next dim j.head.v (complex_in j.head.v j.counts e_keys t_keys s_keys) j.marks e_keys' t_keys' s_keys' t_sides' s_sides' done) where
  abbrev asking : format.Complex → reader.Job
  asking Y = record { question = question_of j.head.question; d = j.head.d; complex = Y; chain = u.set }

  edited : r ≡ reading_of (λ after. asking (complex_in j.head.v after.counts e_keys' t_keys' s_keys')) done
  edited =
      u.is
      ∙ ap (λ (x : Reading format.Complex). x and_then λ Y. accepted (asking Y)) taken.reading
      ∙ reading-then done (λ after. complex_in j.head.v after.counts e_keys' t_keys' s_keys') asking

  pub edits-refused : (x : Refusal) → done ≡ Err x → Told r e_keys' t_keys' s_keys' t_sides' s_sides' (Err x)
  edits-refused x is = record {
    set = u.set;
    is = edited ∙ ap (reading_of (λ after. asking (complex_in j.head.v after.counts e_keys' t_keys' s_keys'))) is;
    held = λ k f. absurd (not_read f);
    marks = λ k f. absurd (not_read f);
    head = λ k f. absurd (not_read f);
  }

  pub edits-told : (after : Edited) (next : ℕ) → done ≡ Ok after
      → Told r e_keys' t_keys' s_keys' t_sides' s_sides' (Ok (record { head = j.head; counts = after.counts; marks = after.marks; next = next }))
  edits-told after next is = record {
    set = u.set;
    is = edited ∙ ap (reading_of (λ after. asking (complex_in j.head.v after.counts e_keys' t_keys' s_keys'))) is;
    held = λ k f. subst (λ (x : NumbersRead). Held x.head.v x.counts e_keys' t_keys' s_keys' t_sides' s_sides') (same_read f) (taken.held after is);
    marks = λ k f.
        subst (λ (x : NumbersRead). Marked x.marks.on (rows (job_in x e_keys' t_keys' s_keys' u.set)) u.set) (same_read f)
        (subst (λ (k : ℕ). Marked after.marks.on (simplices (complex_in j.head.v after.counts e_keys' t_keys' s_keys') k) u.set) e
        (taken.stay after is u.set
        (subst (λ (k : ℕ). Marked j.marks.on (simplices (complex_in j.head.v j.counts e_keys t_keys s_keys) k) u.set) (sym e) (u.marks j refl))));
    head = λ k f. subst (λ (x : NumbersRead). SoundHead x.head) (same_read f) (u.head j refl);
  }

-- three sound lists make a sound complex
pub complex-sound : (v : ℕ) (edges triangles tetrahedra : List Simplex) → v ≤ 256 → ListSound 2 v [] edges → ListSound 3 v edges triangles → ListSound 4 v triangles tetrahedra → SoundComplex small (record { v = v; edges = edges; triangles = triangles; tetrahedra = tetrahedra })
complex-sound v edges triangles tetrahedra few e t s =
    record {
      vertices = few;
      edges = e.sound;
      triangles = t.sound;
      tetrahedra = s.sound;
      few_edges = e.few;
      few_triangles = t.few;
      few_tetrahedra = s.few;
    }

-- a head that was read is sound
pub head-known : (p : List ℕ) {r : Result Head Refusal} (h : Head) → HeadKnown p r → r ≡ Ok h → SoundHead h
head-known p {r} h known e =
    let read = head-sound small p (head_of h) (told (reading_of head_of) r (Ok h) _ known.reading e) in
    record { asks = known.asks h e; dimension = read.0; vertices = read.1 }

-- lists of which one was refused
pub lists-told-refused : {b : List ℕ} {at v : ℕ} {e_keys e_first e_next t_keys s_keys t_sides s_sides : List ℕ} (e : Refusal)
    → read_lists b at v ≡ refused_by e → ListsTold b at v e_keys e_first e_next t_keys s_keys t_sides s_sides (Err e)
lists-told-refused e out = record { reads = out; held = λ l f. absurd (not_read f); linked = λ l f. absurd (not_read f) }
