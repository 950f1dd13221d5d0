-- What `Answer` says of a sound job's answer by ranks and what `Sets` says of it by sets is the same. Why: a set of listed
-- simplices is a chain and its boundary is the chain's, so the same ones fill, are of the class, and are the smallest.
use Rattle.std.specs.Prelude.{ℕ, suc, ◌≡◌, List, length}
use Rattle.std.proofs.Common.{sym, ◌∙◌, ap}
use Rattle.chains.specs.Chain.{Chain, ◌⊕◌, empty, boundary, InClass}
use Rattle.format.specs.Numbers.{Limits}
use Rattle.format.specs.Simplex.{Simplex, SimplexSet, lower, chain_in}
use Rattle.format.specs.Reading.{Job}
use Rattle.format.specs.Answer.{row_dimension, rows, cols, matrix, asked_chain, rim, FillsJob, FillAnswer, open_rim, unfilled, patch, ClassAnswer}
use Rattle.format.specs.Matrix.{chain-under}
use Rattle.format.specs.Sound.{SoundJob}
use Rattle.format.specs.Rims.{filled-closed}
use Rattle.format.specs.Sets.{no_simplex, ◌△◌, boundary_set, FillsSet, InClassSet, RimClosed, FillSetAnswer, refused_open, refused_unfilled, filled_by, ClassSetAnswer}
use Rattle.format.specs.SetLaws.{set_of}
use Rattle.format.proofs.SetLaws.{set-within, chain-of-set, same-sets, none-chain, none_within, chain-sum, sum-within, record_same, record-of-set, smallest-set, smallest-chain}
use Rattle.format.specs.SetBoundary.{Layers}
use Rattle.format.proofs.SetBoundary.{boundary-chain, boundary-within, sound-layers}

module _ (L : Limits) (j : Job) (sound : SoundJob L j) where
  job-layers : Layers (rows j) (cols j)
  unfolding lower
  job-layers = sound-layers L j.complex sound.complex (suc (row_dimension j))

  -- the boundary of the set that a chain of the columns stands for
  set-boundary : (c : Chain) → chain_in (cols j) (set_of (cols j) c) ≡ c
      → chain_in (rows j) (boundary_set (cols j) (set_of (cols j) c)) ≡ boundary (matrix j) (length (cols j)) c
  set-boundary c e =
      boundary-chain (rows j) (cols j) job-layers (set_of (cols j) c) ∙ ap (boundary (matrix j) (length (cols j))) e

  -- FILLINGS.
  fills-chain : (S : SimplexSet) → FillsSet j S → FillsJob j (chain_in (cols j) S)
  fills-chain S f =
      record {
        under = chain-under (cols j) S;
        bounds = sym (boundary-chain (rows j) (cols j) job-layers S) ∙ ap (chain_in (rows j)) f.bounds;
      }

  fills-set : (c : Chain) → FillsJob j c → FillsSet j (set_of (cols j) c)
  fills-set c f =
      record {
        within = set-within (cols j) c;
        bounds =
            same-sets (rows j) (boundary_set (cols j) (set_of (cols j) c)) j.chain
            (boundary-within (rows j) (cols j) job-layers (set_of (cols j) c)) sound.chain
            (set-boundary c (chain-of-set (cols j) job-layers.cols_once c f.under) ∙ f.bounds);
      }

  -- THE CLASS.
  abbrev InClassJob : Chain → Type 0
  InClassJob = InClass (matrix j) (length (cols j)) (length (rows j)) (asked_chain j)

  class-chain : (G : SimplexSet) → InClassSet j G → InClassJob (chain_in (rows j) G)
  class-chain G g =
      record {
        under = chain-under (rows j) G;
        by = chain_in (cols j) g.by;
        by_under = chain-under (cols j) g.by;
        bounds =
            sym (chain-sum (rows j) G j.chain) ∙ ap (chain_in (rows j)) g.bounds ∙
            boundary-chain (rows j) (cols j) job-layers g.by;
      }

  class-set : (c : Chain) → InClassJob c → InClassSet j (set_of (rows j) c)
  class-set c g =
      record {
        within = set-within (rows j) c;
        by = set_of (cols j) g.by;
        by_within = set-within (cols j) g.by;
        bounds =
            same-sets (rows j) (set_of (rows j) c △ j.chain) (boundary_set (cols j) (set_of (cols j) g.by))
            (sum-within (rows j) (set_of (rows j) c) j.chain (set-within (rows j) c) sound.chain)
            (boundary-within (rows j) (cols j) job-layers (set_of (cols j) g.by))
            (chain-sum (rows j) (set_of (rows j) c) j.chain ∙
            ap (λ x. x ⊕ asked_chain j) (chain-of-set (rows j) job-layers.rows_once c g.under) ∙ g.bounds ∙
            sym (set-boundary g.by (chain-of-set (cols j) job-layers.cols_once g.by g.by_under)));
      }

  -- THE RIM, a set of the simplices one dimension below A's.
  abbrev below : List Simplex
  below = lower j.complex (row_dimension j)

  rim-layers : Layers below (rows j)
  rim-layers = sound-layers L j.complex sound.complex (row_dimension j)

  closed-rim : RimClosed j → rim j ≡ empty
  closed-rim e = sym (boundary-chain below (rows j) rim-layers j.chain) ∙ ap (chain_in below) e ∙ none-chain below

  rim-closed : rim j ≡ empty → RimClosed j
  rim-closed e =
      same-sets below (boundary_set (rows j) j.chain) no_simplex
      (boundary-within below (rows j) rim-layers j.chain) (none_within below)
      (boundary-chain below (rows j) rim-layers j.chain ∙ e ∙ sym (none-chain below))

  -- what has a filling has an empty boundary
  pub fillable-closed : (S : SimplexSet) → FillsSet j S → RimClosed j
  fillable-closed S f = rim-closed (filled-closed L j sound (chain_in (cols j) S) (fills-chain S f))

  -- THE ANSWERS.
  pub fill-by-sets : (answer : List ℕ) → FillAnswer j answer → FillSetAnswer j answer
  fill-by-sets answer (open_rim o e) = refused_open (λ r. o (closed-rim r)) e
  fill-by-sets answer (unfilled r n e) = refused_unfilled (rim-closed r) (λ S f. n (chain_in (cols j) S) (fills-chain S f)) e
  fill-by-sets answer (patch r c s e) =
      filled_by (set_of (cols j) c)
      (smallest-set (cols j) job-layers.cols_once (FillsSet j) (FillsJob j)
      (λ S f. f.within) (λ c f. f.under) fills-chain fills-set c s)
      (e ∙ record-of-set j.d (cols j) job-layers.cols_once c s.has.under)

  pub fill-by-ranks : (answer : List ℕ) → FillSetAnswer j answer → FillAnswer j answer
  fill-by-ranks answer (refused_open o e) = open_rim (λ r. o (rim-closed r)) e
  fill-by-ranks answer (refused_unfilled r n e) = unfilled (closed-rim r) (λ c f. n (set_of (cols j) c) (fills-set c f)) e
  fill-by-ranks answer (filled_by S s e) =
      patch (filled-closed L j sound (chain_in (cols j) S) (fills-chain S s.has)) (chain_in (cols j) S)
      (smallest-chain (cols j) job-layers.cols_once (FillsSet j) (FillsJob j)
      (λ S f. f.within) (λ c f. f.under) fills-chain fills-set S s)
      (e ∙ record_same j.d (cols j) S)

  pub class-by-sets : (answer : List ℕ) → ClassAnswer j answer → ClassSetAnswer j answer
  class-by-sets answer a =
      record {
        set = set_of (rows j) a.chain;
        smallest =
            smallest-set (rows j) job-layers.rows_once (InClassSet j) InClassJob
            (λ G g. g.within) (λ c g. g.under) class-chain class-set a.chain a.smallest;
        is = a.is ∙ record-of-set j.d (rows j) job-layers.rows_once a.chain a.smallest.has.under;
      }

  pub class-by-ranks : (answer : List ℕ) → ClassSetAnswer j answer → ClassAnswer j answer
  class-by-ranks answer a =
      record {
        chain = chain_in (rows j) a.set;
        smallest =
            smallest-chain (rows j) job-layers.rows_once (InClassSet j) InClassJob
            (λ G g. g.within) (λ c g. g.under) class-chain class-set a.set a.smallest;
        is = a.is ∙ record_same j.d (rows j) a.set;
      }
