-- Bytes put out piece by piece, one behind the other: what is left to put, behind what was put, is the whole.
use Prim.Native.Nat.{ℕ, suc, ◌+◌, ◌≤◌, ◌<◌}
use mathlib.Core.Path.{◌≡◌, refl, sym, ◌∙◌, ap, subst}
use mathlib.Core.Bool.{Bool, true, false, cond}
use mathlib.Core.List.{List, [], ◌∷◌, ◌++◌, append-nil, append_assoc, map}
use native.Mathlib.Omega.{arith}
use native.Mathlib.Nat.{add-zero}
use native.Mathlib.Numerals.{add-one}
use lib.ListN.{length, get_or, set, drop, length-append}
use lib.Seq.{drop-cons}
use Rattle.std.proofs.Common.{count_by}
use Rattle.std.proofs.lemmas.List.Sums.{sum_by-cons}
use Rattle.format.specs.Simplex.{Simplex}
use Rattle.format.specs.Answer.{u16_bytes}
use Rattle.format.specs.Writing.{places_from, position_bytes}
use Rattle.writer.specs.Splice.{splice, splice-nothing, splice-more, splice-byte, length-splice}
use Rattle.writer.specs.Meaning.{vertex_byte, simplex_bytes, list_bytes, Put}

-- Lists one behind the other: their bytes, places and positions are so too.
pub list_bytes-append : (k l : List Simplex) → list_bytes (k ++ l) ≡ list_bytes k ++ list_bytes l
unfolding list_bytes
list_bytes-append [] l = refl
list_bytes-append (s ∷ k) l = ap (◌++◌ (simplex_bytes s)) (list_bytes-append k l) ∙ sym (append_assoc (simplex_bytes s) (list_bytes k) (list_bytes l))

pub places-append : (k : ℕ) (marks more : List Bool) → places_from k (marks ++ more) ≡ places_from k marks ++ places_from (k + length marks) more
unfolding places_from
places-append k [] more = ap (λ n. places_from n more) (sym (add-zero k))
places-append k (true ∷ marks) more =
    let e : suc k + length marks ≡ k + length (true ∷ marks) = omega arith in
    ap (◌∷◌ k) (places-append (suc k) marks more ∙ ap (λ n. places_from (suc k) marks ++ places_from n more) e)
places-append k (false ∷ marks) more =
    let e : suc k + length marks ≡ k + length (false ∷ marks) = omega arith in
    places-append (suc k) marks more ∙ ap (λ n. places_from (suc k) marks ++ places_from n more) e

pub positions-append : (k l : List ℕ) → position_bytes (k ++ l) ≡ position_bytes k ++ position_bytes l
unfolding position_bytes
positions-append [] l = refl
positions-append (p ∷ k) l = ap (◌++◌ (u16_bytes p)) (positions-append k l) ∙ sym (append_assoc (u16_bytes p) (position_bytes k) (position_bytes l))

pub put-nothing : (l : List ℕ) (at : ℕ) → Put l at [] l at
put-nothing l at = record { lent = sym (splice-nothing l at); next = sym (add-zero at) }

pub put-byte : (l : List ℕ) (at b reached : ℕ) → at < length l → reached ≡ at + 1 → Put l at (b ∷ []) (set l at b) reached
put-byte l at b reached h e =
    record {
      lent = ap (λ x. set x at b) (sym (splice-nothing l at)) ∙ splice-byte l at at [] b (sym (add-zero at)) h;
      next = e;
    }

-- a piece, and the next one behind it
pub put-more : {l x y : List ℕ} {at next reached : ℕ} {first second : List ℕ} → at + length first ≤ length l → Put l at first x next → Put x next second y reached → Put l at (first ++ second) y reached
put-more {l} {x} {y} {at} {next} {reached} {first} {second} room p q =
    record {
      lent = q.lent ∙ ap (λ w. splice w next second) p.lent ∙ splice-more l at next first second p.next room;
      next = omega (arith, p.next, q.next, length-append first second);
    }

pub put-long : {l x : List ℕ} {at next : ℕ} {bytes : List ℕ} → at + length bytes ≤ length l → Put l at bytes x next → length x ≡ length l
put-long {l} {x} {at} {next} {bytes} room p = ap length p.lent ∙ length-splice l at bytes room

-- A RUN of pieces.
pub record Run (l : List ℕ) (at : ℕ) (whole now : List ℕ) (next : ℕ) (rest : List ℕ) : Type 0 where
  pub done : List ℕ
  pub put : Put l at done now next
  pub all : done ++ rest ≡ whole

pub run-starts : (l : List ℕ) (at : ℕ) (whole : List ℕ) → Run l at whole l at whole
run-starts l at whole = record { done = []; put = put-nothing l at; all = refl }

module _ {l : List ℕ} {at : ℕ} {whole now : List ℕ} {next : ℕ} {rest : List ℕ} (run : Run l at whole now next rest) where
  pub run-ends : rest ≡ [] → Put l at whole now next
  run-ends e = subst (λ b. Put l at b now next) (sym (append-nil run.done) ∙ ap (λ x. run.done ++ x) (sym e) ∙ run.all) run.put

  pub run-skips : (more : List ℕ) → rest ≡ more → Run l at whole now next more
  run-skips more e = record { done = run.done; put = run.put; all = ap (λ x. run.done ++ x) (sym e) ∙ run.all }

  module _ (room : at + length whole ≤ length l) (piece more : List ℕ) (e : rest ≡ piece ++ more) where
    lengths : length run.done + length rest ≡ length whole
    lengths = sym (length-append run.done rest) ∙ ap length run.all

    pub run-room : next + length piece ≤ length now
    run-room = omega (arith, lengths, ap length e, length-append piece more, run.put.next, put-long (omega (arith, lengths)) run.put)

    pub run-goes-on : {after : List ℕ} {reached : ℕ} → Put now next piece after reached → Run l at whole after reached more
    run-goes-on put =
        record {
          done = run.done ++ piece;
          put = put-more (omega (arith, lengths)) run.put put;
          all = append_assoc run.done piece more ∙ ap (λ x. run.done ++ x) (sym e) ∙ run.all;
        }

-- THE PIECES, each at the front of what is left: a vertex of a simplex, a simplex of a list, and a mark that is on or off.
pub next-vertex : (s : Simplex) (i : ℕ) → i < length s → map vertex_byte (drop i s) ≡ (vertex_byte (get_or s i 0) ∷ []) ++ map vertex_byte (drop (i + 1) s)
next-vertex s i h = rw (add-one, drop-cons s i 0)

pub next-simplex : (l : List Simplex) (i : ℕ) (s d : Simplex) → i < length l → get_or l i d ≡ s → list_bytes (drop i l) ≡ simplex_bytes s ++ list_bytes (drop (i + 1) l)
unfolding list_bytes
next-simplex l i s d h e = rw (add-one, drop-cons l i d, e)

module _ (on : List Bool) (i : ℕ) (h : i < length on) where
  pub next-mark : get_or on i false ≡ true → position_bytes (places_from i (drop i on)) ≡ u16_bytes i ++ position_bytes (places_from (i + 1) (drop (i + 1) on))
  unfolding places_from position_bytes
  next-mark e = rw (add-one, drop-cons on i false, e)

  pub no-mark : get_or on i false ≡ false → position_bytes (places_from i (drop i on)) ≡ position_bytes (places_from (i + 1) (drop (i + 1) on))
  unfolding places_from
  no-mark e = rw (add-one, drop-cons on i false, e)

-- as many places as marks that are on
pub count-places : (k : ℕ) (on : List Bool) → count_by (λ b. b) on ≡ length (places_from k on)
unfolding places_from
count-places k [] = refl
count-places k (true ∷ on) = omega (arith, sum_by-cons (λ (b : Bool). cond b 1 0) true on, count-places (suc k) on)
count-places k (false ∷ on) = omega (arith, sum_by-cons (λ (b : Bool). cond b 1 0) false on, count-places (suc k) on)
