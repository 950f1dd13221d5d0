-- Laws of moving one item of a list to another place. Why they hold: what is moved leaves the others in their order,
-- so a move by one place more is one exchange of two neighbours, and nothing is lost or added.
use Prim.Native.Nat.{ℕ, zero, suc, ◌≤◌, ◌<◌}
use Rattle.std.proofs.Common.{le_of_suc-le-suc, not-suc-le-zero, arith, sym, ◌∙◌, length-append, take-append-drop, drop-cons, take-suc, length-take-le}
use Rattle.std.specs.Prelude.{◌≡◌, Bool, ◌||◌, get_or, set, drop}
use Rattle.std.proofs.Math.Path.{refl, ap}
use Rattle.std.proofs.Math.Bool.{or_assoc, or_comm}
use mathlib.Core.List.{List, [], ◌∷◌, ◌++◌, map, append_assoc, append-nil, map-append}
use Rattle.std.proofs.Math.ListN.{length, take, length-take, length-drop, drop_of_length-le}
use Rattle.std.proofs.Math.Seq.{take-append-le, drop-append-le, append_snoc}
use Rattle.format.specs.Simplex.{Simplex, listed}
use Rattle.format.specs.Reading.{without, moved}
use Rattle.format.specs.Lookup.{listed-append}

-- two items change places; `d` stands at places outside the list
abbrev pub exchanged : {A : Type 0} → A → (i j : ℕ) → List A → List A
exchanged d i j l = set (set l i (get_or l j d)) j (get_or l i d)

module _ {A : Type 0} where
  -- to its own place: nothing changes
  pub moved-home : (i : ℕ) (l : List A) → moved i i l ≡ l
  unfolding moved
  moved-home zero [] = refl
  moved-home (suc i) [] = refl
  moved-home zero (x ∷ l) = refl
  moved-home (suc i) (x ∷ l) = ap (◌∷◌ x) (moved-home i l)

  -- LEAVING OUT one item: those before it stay where they are, those after it are one place nearer.
  pub without-out : (k : ℕ) (l : List A) → length l ≤ k → without k l ≡ l
  without-out zero [] h = refl
  without-out (suc k) [] h = refl
  without-out zero (x ∷ l) h = absurd (not-suc-le-zero h)
  without-out (suc k) (x ∷ l) h = ap (◌∷◌ x) (without-out k l (le_of_suc-le-suc h))

  pub without-before : (k : ℕ) (l : List A) (j : ℕ) (d : A) → j < k → get_or (without k l) j d ≡ get_or l j d
  without-before zero l j d h = absurd (not-suc-le-zero h)
  without-before (suc k) [] j d h = refl
  without-before (suc k) (x ∷ l) zero d h = refl
  without-before (suc k) (x ∷ l) (suc j) d h = without-before k l j d (le_of_suc-le-suc h)

  pub without-after : (k : ℕ) (l : List A) (j : ℕ) (d : A) → k ≤ j → get_or (without k l) j d ≡ get_or l (suc j) d
  without-after zero [] j d h = refl
  without-after zero (x ∷ l) j d h = refl
  without-after (suc k) [] j d h = refl
  without-after (suc k) (x ∷ l) zero d h = absurd (not-suc-le-zero h)
  without-after (suc k) (x ∷ l) (suc j) d h = without-after k l j d (le_of_suc-le-suc h)

  pub length_without : (i : ℕ) (l : List A) → i < length l → suc (length (without i l)) ≡ length l
  length_without i l h = simp (length-append, length-take, length-drop) (omega arith)

  -- A move puts one item among the others, which keep their order.
  abbrev put : ℕ → A → List A → List A
  put k x w = take k w ++ x ∷ drop k w

  moved-put : (d : A) (seen k : ℕ) (l : List A) → seen < length l → moved seen k l ≡ put k (get_or l seen d) (without seen l)
  unfolding moved
  moved-put d seen k l h = rw (drop-cons l seen d, append_snoc)

  -- neighbours that change places, behind any front
  exchange-up : (d x y : A) (p q : List A) → exchanged d (length p) (suc (length p)) (p ++ x ∷ y ∷ q) ≡ p ++ y ∷ x ∷ q
  exchange-up d x y [] q = refl
  exchange-up d x y (z ∷ p) q = ap (◌∷◌ z) (exchange-up d x y p q)

  exchange-down : (d x y : A) (p q : List A) → exchanged d (suc (length p)) (length p) (p ++ x ∷ y ∷ q) ≡ p ++ y ∷ x ∷ q
  exchange-down d x y [] q = refl
  exchange-down d x y (z ∷ p) q = ap (◌∷◌ z) (exchange-down d x y p q)

  module _ (d x : A) (i : ℕ) (w : List A) (h : i < length w) where
    put-here : put i x w ≡ take i w ++ x ∷ get_or w i d ∷ drop (suc i) w
    put-here = rw (drop-cons w i d)

    put_next : put (suc i) x w ≡ take i w ++ get_or w i d ∷ x ∷ drop (suc i) w
    put_next = rw (take-suc w i d, append_snoc)

    front : length (take i w) ≡ i
    front = length-take-le i w (omega arith)

    put_up : exchanged d i (suc i) (put i x w) ≡ put (suc i) x w
    put_up = rw (put-here, put_next) (rw front at (exchange-up d x (get_or w i d) (take i w) (drop (suc i) w)))

    put-down : exchanged d (suc i) i (put (suc i) x w) ≡ put i x w
    put-down = rw (put-here, put_next) (rw front at (exchange-down d (get_or w i d) x (take i w) (drop (suc i) w)))

  -- one place more, up or down, is one exchange of neighbours
  module _ (d : A) (seen i : ℕ) (l : List A) (within : seen < length l) (room : suc i < length l) where
    pub moved_up : exchanged d i (suc i) (moved seen i l) ≡ moved seen (suc i) l
    moved_up =
        rw (moved-put d seen i l, moved-put d seen (suc i) l)
        (put_up d (get_or l seen d) i (without seen l) (omega (arith, length_without seen l within)))

    pub moved_down : exchanged d (suc i) i (moved seen (suc i) l) ≡ moved seen i l
    moved_down =
        rw (moved-put d seen i l, moved-put d seen (suc i) l)
        (put-down d (get_or l seen d) i (without seen l) (omega (arith, length_without seen l within)))

  pub length_moved : (i k : ℕ) (l : List A) → length (moved i k l) ≡ length l
  unfolding moved
  length_moved i k l = simp (length-append, length-take, length-drop) (omega arith)

  -- a move within the front of a list leaves the rest
  pub moved-append : (i k : ℕ) (p q : List A) → i < length p → k < length p → moved i k (p ++ q) ≡ moved i k p ++ q
  unfolding moved
  moved-append i k p q h g =
      let others : without i (p ++ q) ≡ without i p ++ q =
      rw (take-append-le i p q (omega arith), drop-append-le (suc i) p q h, append_assoc) in
      let item : take 1 (drop i (p ++ q)) ≡ take 1 (drop i p) =
      rw (drop-append-le i p q (omega arith)) (take-append-le 1 (drop i p) q (omega (arith, length-drop i p))) in
      let enough : k ≤ length (without i p) = omega (arith, length_without i p h) in
      rw (others, item, take-append-le k (without i p) q enough, drop-append-le k (without i p) q enough)
      (sym (append_assoc (take k (without i p) ++ take 1 (drop i p)) (drop k (without i p)) q))

  -- a front that is replaced by one as long
  take-front : (n : ℕ) (p l : List A) → length p ≡ length (take n l) → take n (p ++ drop n l) ≡ p
  take-front zero [] l e = refl
  take-front zero (y ∷ p) l e = absurd (omega arith)
  take-front (suc n) [] [] e = refl
  take-front (suc n) [] (x ∷ l) e = absurd (omega arith)
  take-front (suc n) (y ∷ p) [] e = absurd (omega arith)
  take-front (suc n) (y ∷ p) (x ∷ l) e = ap (◌∷◌ y) (take-front n p l (omega arith))

  pub take-moved : (n i k : ℕ) (l : List A) → i < length (take n l) → k < length (take n l) → take n (moved i k l) ≡ moved i k (take n l)
  take-moved n i k l h g =
      ap (λ (m : List A). take n (moved i k m)) (sym (take-append-drop n l)) ∙
      ap (take n) (moved-append i k (take n l) (drop n l) h g) ∙
      take-front n (moved i k (take n l)) l (length_moved i k (take n l))

  -- what is not there is not moved
  pub moved_out : (i k : ℕ) (l : List A) → length l ≤ i → moved i k l ≡ l
  unfolding moved
  moved_out i k l h = rw (without-out i l h, drop_of_length-le l {i = i} h, append-nil (take k l)) (take-append-drop k l)

-- moving goes along with whatever is read off each item
map-take : {A B : Type 0} (f : A → B) (n : ℕ) (l : List A) → map f (take n l) ≡ take n (map f l)
map-take f zero l = refl
map-take f (suc n) [] = refl
map-take f (suc n) (x ∷ l) = ap (◌∷◌ (f x)) (map-take f n l)

map-drop : {A B : Type 0} (f : A → B) (n : ℕ) (l : List A) → map f (drop n l) ≡ drop n (map f l)
map-drop f zero l = refl
map-drop f (suc n) [] = refl
map-drop f (suc n) (x ∷ l) = map-drop f n l

pub map-moved : {A B : Type 0} (f : A → B) (i k : ℕ) (l : List A) → map f (moved i k l) ≡ moved i k (map f l)
unfolding moved
map-moved f i k l = simp (map-append, map-take, map-drop)

-- a list in three parts, one item in the middle
pub split_one : {A : Type 0} (i : ℕ) (l : List A) → take i l ++ take 1 (drop i l) ++ drop (suc i) l ≡ l
split_one zero [] = refl
split_one (suc i) [] = refl
split_one zero (x ∷ l) = refl
split_one (suc i) (x ∷ l) = ap (◌∷◌ x) (split_one i l)

middle-first : (a m b : Bool) → (a || m || b) ≡ (m || (a || b))
middle-first a m b = rw (or_comm a m, or_assoc)

-- a move lists the same simplices
pub listed-moved : (s : Simplex) (i k : ℕ) (l : List Simplex) → listed s (moved i k l) ≡ listed s l
unfolding moved
listed-moved s i k l =
    let three : (a m b : List Simplex) → listed s (a ++ m ++ b) ≡ (listed s m || listed s (a ++ b)) =
    λ a m b. rw (listed-append s (a ++ m) b, listed-append s a m, listed-append s a b, middle-first) in
    three (take k (without i l)) (take 1 (drop i l)) (drop k (without i l)) ∙
    rw (take-append-drop k (without i l), ← three (take i l) (take 1 (drop i l)) (drop (suc i) l), split_one i l)
