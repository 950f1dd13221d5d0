-- Laws of the edits, for the code that reads them: an edit concerns one list, and the edits of a file are read one by
-- one. Each law is one outcome of the definition's tests.
use Prim.Native.Nat.{ℕ, zero, suc, pred, ◌+◌, ◌≤◌, ◌<◌}
use Rattle.std.proofs.Math.Path.{◌≡◌, refl, ap}
use Rattle.std.proofs.Common.{sym, arith}
use Rattle.std.specs.Prelude.{Bool, not, ◌&&◌, List, [], length, get_or, eqb, leb, ltb}
use Rattle.std.proofs.Math.Bool.{true, false, and-false}
use borrow.Author.Tests.{leb-true, leb-false, eqb-true, ltb-true, not-false, lt-ltb, le-ltb, lt-leb, le-leb, ne_eqb}
use Rattle.format.specs.Numbers.{cut, wrong_kind, shape, stale, target, header_bytes, edit_kind}
use Rattle.format.specs.Simplex.{Simplex, Complex, same, simplices}
use Rattle.format.specs.Reading.{accepted, refused, refuse_if, ◌and_then◌, Header, ended, broken, whole, header_at, payload_at, record_at, record_from, moved, list_kind_of, seen_of, new_of, simplex_of, edit_fits, list_of_kind, with_list, stands_at, edited, read_edits}
use Rattle.format.specs.Listed.{and-true}
use Rattle.format.specs.Opened.{opened_from, opened, record-opened}
use Rattle.format.specs.Sound.{not-refused, same-accepted}
use Rattle.format.specs.EditLaws.{FitsEdit, MovedWithin, edited_list}

-- an edit of a complex is one of the list that it names
pub edited-one : (at : ℕ) (p : List ℕ) (X : Complex) → edited at p X ≡ edited_list at (seen_of p) (new_of p) (simplex_of p) (list_of_kind (list_kind_of p) X) and_then λ l. accepted (with_list (list_kind_of p) l X)
unfolding edited edited_list
edited-one at p X =
    go (not (stands_at (simplex_of p) (seen_of p) (list_of_kind (list_kind_of p) X))) (leb (length (list_of_kind (list_kind_of p) X)) (new_of p)) (moved (seen_of p) (new_of p) (list_of_kind (list_kind_of p) X))
  where
    go : (x y : Bool) (l : List Simplex) → refuse_if x stale at (refuse_if y target at (accepted (with_list (list_kind_of p) l X))) ≡ refuse_if x stale at (refuse_if y target at (accepted l)) and_then λ l. accepted (with_list (list_kind_of p) l X)
    go true y l = refl
    go false true l = refl
    go false false l = refl

module _ (at seen new : ℕ) (s : Simplex) (l : List Simplex) where
  pub list-past : length l ≤ seen → edited_list at seen new s l ≡ refused stale at
  unfolding edited_list
  list-past h = rw (le-ltb seen (length l) h)

  pub list-other : same s (get_or l seen []) ≡ false → edited_list at seen new s l ≡ refused stale at
  unfolding edited_list
  list-other e = rw (e, and-false)

  module _ (within : seen < length l) (stands : same s (get_or l seen []) ≡ true) where
    pub list-target : length l ≤ new → edited_list at seen new s l ≡ refused target at
    unfolding edited_list
    list-target h = rw (lt-ltb seen (length l) within, stands, le-leb (length l) new h)

    pub list-moved : new < length l → edited_list at seen new s l ≡ accepted (moved seen new l)
    unfolding edited_list
    list-moved h = rw (lt-ltb seen (length l) within, stands, lt-leb (length l) new h)

pub accepted-moved : (at seen new : ℕ) (s : Simplex) (l after : List Simplex) → edited_list at seen new s l ≡ accepted after → MovedWithin seen new l after
unfolding edited_list
accepted-moved at seen new s l after e =
    let one = not-refused (not (stands_at s seen l)) stale at _ after e in
    let two = not-refused (leb (length l) new) target at _ after one.1 in
    let stands = and-true (ltb seen (length l)) (same s (get_or l seen [])) (not-false (stands_at s seen l) one.0) in
    record {
      seen_below = ltb-true seen (length l) stands.0;
      new_below = leb-false (length l) new two.0;
      is = sym (same-accepted _ after two.1);
    }

-- THE SHAPE of an edit's payload: its test, by its parts.
module _ (p : List ℕ) where
  pub low-kind : list_kind_of p < 2 → edit_fits p ≡ false
  low-kind h = rw (lt-leb 2 (list_kind_of p) h)

  pub high-kind : 4 < list_kind_of p → edit_fits p ≡ false
  high-kind h = rw (lt-leb (list_kind_of p) 4 h, and-false)

  pub fits-length : 2 ≤ list_kind_of p → list_kind_of p ≤ 4 → edit_fits p ≡ eqb (length p) (6 + list_kind_of p)
  fits-length least most = rw (le-leb 2 (list_kind_of p) least, le-leb (list_kind_of p) 4 most)

pub fits-edit : (p : List ℕ) → edit_fits p ≡ true → FitsEdit p
fits-edit p e =
    let one = and-true (leb 2 (list_kind_of p) && leb (list_kind_of p) 4) (eqb (length p) (6 + list_kind_of p)) e in
    let two = and-true (leb 2 (list_kind_of p)) (leb (list_kind_of p) 4) one.0 in
    record {
      least = leb-true 2 (list_kind_of p) two.0;
      most = leb-true (list_kind_of p) 4 two.1;
      long = eqb-true (length p) (6 + list_kind_of p) one.1;
    }

-- THE LISTS of a complex of which one was replaced.
module _ (kind : ℕ) (l : List Simplex) (X : Complex) where
  pub with-edges : kind ≡ 2 → record { v = X.v; edges = l; triangles = X.triangles; tetrahedra = X.tetrahedra } ≡ with_list kind l X
  unfolding with_list
  with-edges e = rw e

  pub with-triangles : kind ≡ 3 → record { v = X.v; edges = X.edges; triangles = l; tetrahedra = X.tetrahedra } ≡ with_list kind l X
  unfolding with_list
  with-triangles e = rw e

  pub with-tetrahedra : kind ≡ 4 → record { v = X.v; edges = X.edges; triangles = X.triangles; tetrahedra = l } ≡ with_list kind l X
  unfolding with_list
  with-tetrahedra e = rw e

-- the list of the edited kind is the new one
pub replaced-list : (kind : ℕ) (l : List Simplex) (X : Complex) → 2 ≤ kind → kind ≤ 4 → simplices (with_list kind l X) (pred kind) ≡ l
unfolding simplices with_list
replaced-list kind l X least most = go kind least most
  where
    go : (k : ℕ) → 2 ≤ k → k ≤ 4 → simplices (with_list k l X) (pred k) ≡ l
    go zero a b = absurd (omega arith)
    go (suc zero) a b = absurd (omega arith)
    go (suc (suc zero)) a b = refl
    go (suc (suc (suc zero))) a b = refl
    go (suc (suc (suc (suc zero)))) a b = refl
    go (suc (suc (suc (suc (suc k))))) a b = absurd (omega arith)

-- the simplices of every other dimension stay as they are
pub kept-list : (kind dim : ℕ) (l : List Simplex) (X : Complex) → (pred kind ≡ dim → ⊥) → simplices (with_list kind l X) dim ≡ simplices X dim
unfolding simplices with_list
kept-list kind dim l X other = go dim other
  where
    go : (k : ℕ) → (pred kind ≡ k → ⊥) → simplices (with_list kind l X) k ≡ simplices X k
    go zero n = refl
    go (suc zero) n = rw (ne_eqb kind 2 (λ e. n (ap pred e)))
    go (suc (suc zero)) n = rw (ne_eqb kind 3 (λ e. n (ap pred e)))
    go (suc (suc (suc zero))) n = rw (ne_eqb kind 4 (λ e. n (ap pred e)))
    go (suc (suc (suc (suc k)))) n = refl

-- EDIT BY EDIT. At the end of the file nothing is left to do; before it, the outcome is that of the next record's tests.
pub edits-ended : (left : ℕ) (b : List ℕ) (at : ℕ) (X : Complex) → length b ≤ at → read_edits left b at X ≡ accepted X
unfolding read_edits
edits-ended zero b at X h = rw (le-leb (length b) at h)
edits-ended (suc left) b at X h = rw (le-leb (length b) at h)

module _ (b : List ℕ) (at : ℕ) (X : Complex) (more : at < length b) where
  -- where no kind may stand, a record is refused all the same: as cut, or by its kind
  refused-any : (n : ℕ) → opened (eqb edit_kind) b at ≡ refused n at → record_at (λ _. false) (λ _ _. true) b at ≡ refused n at
  unfolding opened_from record_from
  refused-any n e = go (header_at b at) e
    where
      go : (h : Header) → opened_from (eqb edit_kind) at h ≡ refused n at → record_from (λ _. false) (λ _ _. true) b at h ≡ refused n at
      go ended e = let same : wrong_kind ≡ n = cc in ap (λ k. refused k at) same
      go broken e = let same : cut ≡ n = cc in ap (λ k. refused k at) same
      go (whole kind size) e = one (eqb edit_kind kind) e
        where
          one : (x : Bool) → refuse_if (not x) wrong_kind at (accepted size) ≡ refused n at → record_from (λ _. false) (λ _ _. true) b at (whole kind size) ≡ refused n at
          one true e = let w : ◌≡◌ {A = ℕ} 0 1 = cc in absurd (omega arith)
          one false e = let same : wrong_kind ≡ n = cc in ap (λ k. refused k at) same

  pub edits-refused : (left n : ℕ) → opened (eqb edit_kind) b at ≡ refused n at → read_edits left b at X ≡ refused n at
  unfolding read_edits
  edits-refused zero n e = rw (lt-leb (length b) at more, refused-any n e)
  edits-refused (suc left) n e = rw (lt-leb (length b) at more, record-opened (λ _ p. edit_fits p) b at edit_kind, e)

  module _ (size : ℕ) (found : opened (eqb edit_kind) b at ≡ accepted size) where
    -- a record too many
    pub edits-full : read_edits 0 b at X ≡ refused wrong_kind at
    unfolding read_edits opened_from record_from
    edits-full = rw (lt-leb (length b) at more) (go (header_at b at) found)
      where
        go : (h : Header) → opened_from (eqb edit_kind) at h ≡ accepted size → (record_from (λ _. false) (λ _ _. true) b at h and_then λ _. accepted X) ≡ refused wrong_kind at
        go ended e = refl
        go broken e = let w : ◌≡◌ {A = ℕ} 0 1 = cc in absurd (omega arith)
        go (whole kind size) e = refl

    pub edits-shape : (left : ℕ) → 0 < left → edit_fits (payload_at b at size) ≡ false → read_edits left b at X ≡ refused shape at
    unfolding read_edits
    edits-shape zero h e = absurd (omega arith)
    edits-shape (suc left) h e = rw (lt-leb (length b) at more, record-opened (λ _ p. edit_fits p) b at edit_kind, found, e)

    -- an edit is done, and the rest is read from the next record on
    pub edits-next : (left : ℕ) → 0 < left → edit_fits (payload_at b at size) ≡ true → read_edits left b at X ≡ edited at (payload_at b at size) X and_then read_edits (pred left) b (at + header_bytes + size)
    unfolding read_edits
    edits-next zero h e = absurd (omega arith)
    edits-next (suc left) h e = rw (lt-leb (length b) at more, record-opened (λ _ p. edit_fits p) b at edit_kind, found, e)
