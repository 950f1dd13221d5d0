-- The items of a payload are taken one by one, by 7 and, of edges, 6. Why the loop leaves to rule 8 what the definition reads: with the
-- items taken still to be judged by 8, what the definition has to do behind them stays what it had to do at the start; a refusal,
-- or the last item, ends both.
use Prim.Native.Nat.{ℕ, ◌+◌, ◌-◌, ◌*◌, ◌≤◌, ◌<◌}
use native.Mathlib.Nat.{lt_of_mul-lt-mul_left, mul-add, mul-one, mul-zero, add_assoc, add-zero}
use native.Mathlib.Omega.{arith}
use native.Mathlib.Numerals.{add-one}
use mathlib.Core.Path.{◌≡◌, refl, sym, ap, ap₂, ◌∙◌, subst, subst₂}
use mathlib.Core.Bool.{Bool, true, false, not, cond, ◌&&◌, false≢true}
use mathlib.Core.List.{List, [], ◌∷◌, ◌++◌}
use native.Mathlib.Decide.{ℕ_discrete}
use lib.ListN.{length, get_or, take, drop, length-drop, get_or-append}
use lib.Seq.{drop-drop, get_or-append_seam}
use lib.Dec.{leb}
use Rattle.format.specs.Numbers.{vertex, twice, face}
use Rattle.format.specs.Simplex.{sound_simplex, listed, all_listed}
use Rattle.format.specs.Simplex as format
use Rattle.format.specs.Reading.{Reading, refused, refuse_if, owed_facets, items_of, read_items}
use Rattle.format.specs.Items.{items-next, items-none}
use Rattle.format.specs.Sound.{AllSound}
use Rattle.lists.proofs.Four.{length_part}
use Rattle.std.proofs.Common.{Ok, Err}
use Rattle.refusals.specs.Meaning.{number_of}
use Rattle.refusals.specs.Numbers.{number-some}
use Rattle.refusals.specs.declared.Reason.{Reason}
use Rattle.lookup.specs.Indexed.{Proper, Keyed, Indexed, Blank, Entered}
use Rattle.lookup.specs.IndexLaws.{proper-none, proper-more, indexed-none, indexed-more}
use Rattle.lookup.specs.Numbered.{simplices_in}
use Rattle.lookup.specs.NumberedLaws.{none_in, more-in}
use Rattle.reading_lists.specs.Items.{refusal_of, lack_of, faces_judged, ItemsTaken, Shaped}
use Rattle.reading_lists.proofs.Facing.{faces-more, faces-same, paid-sound}

-- The definition's checks in a row, of an item that is sound or not, repeated or not, and has its facets or not. Of one that is no
-- edge 6 is not asked, so it must be known that such an item is sound where it has its facets, or where it stands before.
module _ {A : Type 0} (place : ℕ) (next : Reading A) where
  abbrev checked : (sound repeated paid : Bool) → Reading A
  checked sound repeated paid = refuse_if (not sound) vertex place (refuse_if repeated twice place (refuse_if (not paid) face place next))

  abbrev first_of : (edge sound repeated : Bool) → ℕ
  first_of edge sound repeated = cond (edge && not sound) vertex (cond repeated twice 0)

  checked_refused : (edge sound repeated paid : Bool) → (first_of edge sound repeated ≡ 0 → ⊥) → (edge ≡ false → repeated ≡ true → sound ≡ true)
      → checked sound repeated paid ≡ refused (first_of edge sound repeated) place
  checked_refused true false repeated paid h k = refl
  checked_refused true true true paid h k = refl
  checked_refused true true false paid h k = absurd (h refl)
  checked_refused false true true paid h k = refl
  checked_refused false true false paid h k = absurd (h refl)
  checked_refused false false true paid h k = absurd (false≢true (k refl refl))
  checked_refused false false false paid h k = absurd (h refl)

  checked-passed : (edge sound repeated paid : Bool) → first_of edge sound repeated ≡ 0 → (edge ≡ false → paid ≡ true → sound ≡ true)
      → (checked sound repeated paid ≡ refuse_if (not paid) (cond sound face vertex) place next) × (repeated ≡ false)
  checked-passed true false repeated paid h k = absurd (omega arith)
  checked-passed true true true paid h k = absurd (omega arith)
  checked-passed true true false paid h k = (refl, refl)
  checked-passed false true true paid h k = absurd (omega arith)
  checked-passed false true false paid h k = (refl, refl)
  checked-passed false false true paid h k = absurd (omega arith)
  checked-passed false false false true h k = absurd (false≢true (k refl refl))
  checked-passed false false false false h k = (refl, refl)

module _ (width v : ℕ) (faces : List format.Simplex) (at : ℕ) (before : List format.Simplex) (s : format.Simplex) (rest : List format.Simplex) where
  item_refused : (refusal_of width v before s ≡ 0 → ⊥) → (leb width 2 ≡ false → listed s before ≡ true → sound_simplex v s ≡ true)
      → read_items width v faces at before (s ∷ rest) ≡ refused (refusal_of width v before s) at
  unfolding read_items refusal_of
  item_refused h k =
      checked_refused at _ (leb width 2) (sound_simplex v s) (listed s before) (all_listed (owed_facets width s) faces) h k

  -- what is taken is new, and left to rule 8
  item-passed : refusal_of width v before s ≡ 0 → (leb width 2 ≡ false → all_listed (owed_facets width s) faces ≡ true → sound_simplex v s ≡ true)
      → (read_items width v faces at before (s ∷ rest)
      ≡ refuse_if (not (all_listed (owed_facets width s) faces)) (lack_of v s) at (read_items width v faces (at + width) (before ++ (s ∷ [])) rest))
      × (listed s before ≡ false)
  unfolding read_items refusal_of lack_of
  item-passed h k =
      checked-passed at _ (leb width 2) (sound_simplex v s) (listed s before) (all_listed (owed_facets width s) faces) h k

-- no simplex of no faces is unsound
none-listed : (v : ℕ) → AllSound v []
unfolding listed
none-listed v f e = absurd (false≢true e)

-- The items up to `at` are entered and not yet judged by 8; the rest is still to be read.
pub record Taking (p : List ℕ) (base v width count at : ℕ) (keys₀ first₀ next₀ keys first next : List ℕ) : Type 0 where
  pub taken : width * count ≡ at
  pub within : at ≤ length p
  pub rest : (faces : List format.Simplex) → AllSound v faces
      → read_items width v faces base [] (items_of width p)
      ≡ faces_judged width v faces base (simplices_in width keys count)
      (read_items width v faces (base + at) (simplices_in width keys count) (items_of width (drop at p)))
  pub own : (i : ℕ) → i < count → get_or (simplices_in width keys count) i [] ≡ take width (drop (width * i) p)
  pub proper : Proper width (simplices_in width keys count)
  pub indexed : Indexed (simplices_in width keys count) keys first next count
  pub fits : length p ≤ width * length keys₀
  pub blank : Blank first₀ next₀
  pub keys_kept : length keys ≡ length keys₀
  pub first_kept : length first ≡ length first₀
  pub next_kept : length next ≡ length next₀

module _ {p : List ℕ} {base v width : ℕ} where
  pub taking-start : {keys first next : List ℕ} → length p ≤ width * length keys → Blank first next → Taking p base v width 0 0 keys first next keys first next
  unfolding faces_judged
  taking-start {keys} {first} {next} fits blank =
      record {
        taken = mul-zero width;
        within = omega arith;
        rest = λ faces sound. rw (add-zero, none_in width keys);
        own = λ i lt. absurd (omega arith);
        proper = subst (Proper width) (sym (none_in width keys)) (proper-none width);
        indexed = subst (λ (l : List format.Simplex). Indexed l keys first next 0) (sym (none_in width keys)) (indexed-none blank.none);
        fits = fits;
        blank = blank;
        keys_kept = refl;
        first_kept = refl;
        next_kept = refl;
      }

  module _ {count at : ℕ} {keys₀ first₀ next₀ keys first next : List ℕ}
      (t : Taking p base v width count at keys₀ first₀ next₀ keys first next) (shape : Shaped p base width) where
    -- the items taken
    abbrev l : List format.Simplex
    l = simplices_in width keys count

    pub taking-end : length p - at < width → ItemsTaken p base v width keys first next (record { verdict = Ok tt; count = count })
    unfolding read_items
    taking-end short = record {
      reads = λ faces sound.
          t.rest faces sound ∙ rw (items-none width (drop at p) (rw (length-drop at p) short));
      own = t.own;
      proper = t.proper;
      indexed = t.indexed;
      within = omega (arith, t.taken, t.within);
    }

    module _ (enough : width ≤ length p - at) where
      -- there is room for one item more
      pub room : count < 512
      room = lt_of_mul-lt-mul_left width (omega (arith, t.taken, t.within, shape))

      pub keys-room : count < length keys
      keys-room = lt_of_mul-lt-mul_left width (omega (arith, t.taken, t.within, shape, held))
        where
          held : length p ≤ width * length keys
          held = subst (λ (n : ℕ). length p ≤ width * n) (sym t.keys_kept) t.fits

      pub next-room : count < length next
      next-room = omega (arith, room, t.blank.room, t.next_kept)

      -- the next item, and what the definition reads behind it
      abbrev s : format.Simplex
      s = take width (drop at p)

      abbrev behind : List format.Simplex → Reading (List format.Simplex)
      behind faces = read_items width v faces (base + at + width) (l ++ (s ∷ [])) (items_of width (drop (at + width) p))

      next-item : items_of width (drop at p) ≡ s ∷ items_of width (drop (at + width) p)
      next-item =
          rw (← drop-drop width at p)
          (items-next width (drop at p) (omega (arith, shape)) (rw (length-drop at p) enough))

      item-wide : length s ≡ width
      item-wide = length_part p at width (omega (arith, t.within))

      module _ {r : ℕ} (judged : (before : List format.Simplex) → Proper width before → Keyed before keys count → r ≡ refusal_of width v before s) where
        number_is : r ≡ refusal_of width v l s
        number_is = judged l t.proper t.indexed.keyed

        pub taking-refused : (reason : Reason) → r ≡ number_of reason → (place : ℕ) → place ≡ base + at
            → ItemsTaken p base v width keys first next (record { verdict = Err (record { reason = reason; place = place }); count = count })
        taking-refused reason is place here = record {
          reads = λ faces sound.
              t.rest faces sound ∙ faces-same width v faces base l _ _ (λ paid.
              ap (read_items width v faces (base + at) l) next-item
              ∙ item_refused width v faces (base + at) l s _ (λ z. number-some reason (sym is ∙ number_is ∙ z))
              (λ wide again. paid-sound width v faces sound s item-wide wide (paid s again))
              ∙ ap₂ refused (sym number_is ∙ is) (sym here));
          own = t.own;
          proper = t.proper;
          indexed = t.indexed;
          within = omega (arith, t.taken, t.within);
        }

        pub taking-on : {keys' first' next' : List ℕ} → r ≡ 0 → Entered s keys keys' first' next' count
            → length keys' ≡ length keys → length first' ≡ length first → length next' ≡ length next
            → Taking p base v width (count + 1) (at + width) keys₀ first₀ next₀ keys' first' next'
        taking-on {keys'} {first'} {next'} none entered keys_long first-long next_long =
            record {
              taken = rw (mul-add, mul-one, t.taken);
              within = omega (arith, t.within, shape);
              rest = λ faces sound.
                  t.rest faces sound ∙ ap (faces_judged width v faces base l)
                  (ap (read_items width v faces (base + at) l) next-item ∙ (passed faces sound).0
                  ∙ ap (λ (a : ℕ). refuse_if (not (all_listed (owed_facets width s) faces)) (lack_of v s) a (behind faces)) place)
                  ∙ sym (faces-more width v faces base l s (behind faces)) ∙ rw (grown, add_assoc);
              own = λ i lt. ap (λ (l : List format.Simplex). get_or l i []) grown ∙ own-more i lt;
              proper = subst (Proper width) (sym grown) (proper-more l s t.proper item-wide (passed [] (none-listed v)).1);
              indexed = subst₂ (λ (l : List format.Simplex) (n : ℕ). Indexed l keys' first' next' n) (sym grown) (sym (add-one count))
                  (indexed-more l s t.indexed keys-room entered);
              fits = t.fits;
              blank = t.blank;
              keys_kept = keys_long ∙ t.keys_kept;
              first_kept = first-long ∙ t.first_kept;
              next_kept = next_long ∙ t.next_kept;
            }
          where
            grown : simplices_in width keys' (count + 1) ≡ l ++ (s ∷ [])
            grown = ap (simplices_in width keys') (add-one count) ∙ more-in width keys keys-room item-wide entered

            place : base + at ≡ base + width * length l
            place = ap (λ (a : ℕ). base + a) (sym t.taken ∙ ap (λ (n : ℕ). width * n) t.indexed.keyed.count)

            long : length l ≡ count
            long = sym t.indexed.keyed.count

            own-more : (i : ℕ) → i < count + 1 → get_or (l ++ (s ∷ [])) i [] ≡ take width (drop (width * i) p)
            own-more i lt = elim (ℕ_discrete i count) [
              | yes e ↦ ap (λ (n : ℕ). get_or (l ++ (s ∷ [])) n []) (e ∙ sym long)
                  ∙ get_or-append_seam l s [] []
                  ∙ ap (λ (a : ℕ). take width (drop a p)) (sym t.taken ∙ ap (λ (n : ℕ). width * n) (sym e))
              | no n ↦ get_or-append l (s ∷ []) [] i (omega (arith, long)) ∙ t.own i (omega arith)
            ]

            passed : (faces : List format.Simplex) → AllSound v faces
                → (read_items width v faces (base + at) l (s ∷ items_of width (drop (at + width) p))
                ≡ refuse_if (not (all_listed (owed_facets width s) faces)) (lack_of v s) (base + at) (behind faces)) × (listed s l ≡ false)
            passed faces sound =
                item-passed width v faces (base + at) l s _ (sym number_is ∙ none)
                (λ wide paid. paid-sound width v faces sound s item-wide wide paid)
