-- No second outcome meets a promise. Why: reading is a function, and a job has at most one smallest filling and at
-- most one smallest chain in a class; the cases of an answer exclude one another.
use Rattle.std.specs.Prelude.{ℕ, ◌≤◌, ◌<◌, ◌≡◌, ◌⊎◌, List, length}
use Rattle.std.proofs.Common.{sym, ◌∙◌, ap, inl, inr, arith}
use Rattle.chains.specs.Chain.{Fills, InClass}
use Rattle.chains.proofs.Smallest.{smallest-unique}
use Rattle.format.specs.Numbers.{Limits}
use Rattle.format.specs.Reading.{Job, Question, fill, class, Reading, accepted, refused, reading}
use Rattle.format.specs.Answer.{matrix, rows, cols, asked_chain, FillAnswer, open_rim, unfilled, patch, ClassAnswer, AnswerTo, Answered, chain_record}
use Rattle.format.specs.Promise.{AnswerPromise, no_room, answered, over, WrittenJob, too_short, written, Written, WritePromise}

pub fill-unique : (j : Job) (a b : List ℕ) → FillAnswer j a → FillAnswer j b → a ≡ b
fill-unique j a b (open_rim o e) (open_rim o' e') = e ∙ sym e'
fill-unique j a b (open_rim o e) (unfilled c n e') = absurd (o c)
fill-unique j a b (open_rim o e) (patch c s f e') = absurd (o c)
fill-unique j a b (unfilled c n e) (open_rim o e') = absurd (o c)
fill-unique j a b (unfilled c n e) (unfilled c' n' e') = e ∙ sym e'
fill-unique j a b (unfilled c n e) (patch c' s f e') = absurd (n s f.has)
fill-unique j a b (patch c s f e) (open_rim o e') = absurd (o c)
fill-unique j a b (patch c s f e) (unfilled c' n e') = absurd (n s f.has)
fill-unique j a b (patch c s f e) (patch c' s' f' e') =
    e ∙ ap (chain_record j.d (cols j))
    (smallest-unique (Fills (matrix j) (length (cols j)) (asked_chain j)) s s' f f') ∙ sym e'

pub class-unique : (j : Job) (a b : List ℕ) → ClassAnswer j a → ClassAnswer j b → a ≡ b
class-unique j a b x y =
    x.is ∙ ap (chain_record j.d (rows j))
    (smallest-unique (InClass (matrix j) (length (cols j)) (length (rows j)) (asked_chain j)) x.chain y.chain
    x.smallest y.smallest) ∙ sym y.is

-- a job has at most one answer record
pub answer-unique : (j : Job) (q : Question) (a b : List ℕ) → AnswerTo j q a → AnswerTo j q b → a ≡ b
answer-unique j fill a b x y = fill-unique j a b x y
answer-unique j class a b x y = class-unique j a b x y

-- and so has a file, read or refused
pub answered-unique : (r : Reading Job) (a b : List ℕ) → Answered r a → Answered r b → a ≡ b
answered-unique (accepted j) a b x y = answer-unique j j.question a b x y
answered-unique (refused number place) a b x y = x ∙ sym y

-- what a call of the answer left behind
pub record SameAnswer (k k₂ : ℕ) (o o₂ w w₂ : List ℕ) : Type 0 where
  pub count : k ≡ k₂
  pub out : o ≡ o₂
  pub work : w ≡ w₂

short-of-room : (L : Limits) (out work : List ℕ) → (length out < L.out_bytes) ⊎ (length work < L.work_bytes) → L.out_bytes ≤ length out → L.work_bytes ≤ length work → ⊥
short-of-room L out work (inl p) ro rw' = omega arith
short-of-room L out work (inr p) ro rw' = omega arith

-- THE ANSWER CALL has one outcome at most.
pub answer-promise-unique : (L : Limits) (job out work : List ℕ) (k : ℕ) (o w : List ℕ) (k₂ : ℕ) (o₂ w₂ : List ℕ) → AnswerPromise L job out work k o w → AnswerPromise L job out work k₂ o₂ w₂ → SameAnswer k k₂ o o₂ w w₂
answer-promise-unique L job out work k o w k₂ o₂ w₂ (no_room s e f g) (no_room s₂ e₂ f₂ g₂) =
    record { count = e ∙ sym e₂; out = f ∙ sym f₂; work = g ∙ sym g₂ }
answer-promise-unique L job out work k o w k₂ o₂ w₂ (no_room s e f g) (answered ro rw' a x e₂ f₂ g₂) = absurd (short-of-room L out work s ro rw')
answer-promise-unique L job out work k o w k₂ o₂ w₂ (answered ro rw' a x e f g) (no_room s e₂ f₂ g₂) = absurd (short-of-room L out work s ro rw')
answer-promise-unique L job out work k o w k₂ o₂ w₂ (answered ro rw' a x e f g) (answered ro₂ rw₂ a₂ x₂ e₂ f₂ g₂) =
    let same : a ≡ a₂ = answered-unique (reading L job) a a₂ x x₂ in
    record { count = e ∙ ap length same ∙ sym e₂; out = f ∙ ap (λ r. over r out) same ∙ sym f₂; work = g ∙ sym g₂ }

-- THE WRITE CALL has one outcome at most.
pub written-unique : (r : Reading Job) (out : List ℕ) (n : ℕ) (o : List ℕ) (n₂ : ℕ) (o₂ : List ℕ) → Written r out n o → Written r out n₂ o₂ → (n ≡ n₂) × (o ≡ o₂)
written-unique (refused number place) out n o n₂ o₂ x y = (x.0 ∙ sym y.0, x.1 ∙ sym y.1)
written-unique (accepted j) out n o n₂ o₂ x y = go x y
  where
    go : WrittenJob j out n o → WrittenJob j out n₂ o₂ → (n ≡ n₂) × (o ≡ o₂)
    go (too_short l e f) (too_short l₂ e₂ f₂) = (e ∙ sym e₂, f ∙ sym f₂)
    go (too_short l e f) (written l₂ e₂ f₂) = absurd (omega arith)
    go (written l e f) (too_short l₂ e₂ f₂) = absurd (omega arith)
    go (written l e f) (written l₂ e₂ f₂) = (e ∙ sym e₂, f ∙ sym f₂)

pub write-promise-unique : (L : Limits) (job out : List ℕ) (n : ℕ) (o : List ℕ) (n₂ : ℕ) (o₂ : List ℕ) → WritePromise L job out n o → WritePromise L job out n₂ o₂ → (n ≡ n₂) × (o ≡ o₂)
write-promise-unique L job = written-unique (reading L job)
