-- The answer call's promise for a file that is answered.
use Prim.Native.Nat.{ℕ, ◌≤◌}
use mathlib.Core.Path.{◌≡◌, ◌∙◌, ap}
use mathlib.Core.List.{List, ◌++◌}
use native.Mathlib.Nat.{zero-add}
use lib.ListN.{length, drop, replicate}
use Rattle.format.specs.Numbers.{small}
use Rattle.format.specs.Promise.{AnswerPromise, answered, over}
use Rattle.writer.specs.Meaning.{Put}
use Rattle.answering.specs.Meaning.{AnswersFile}

-- what is put at the front is written over the lent bytes
put-over : {l bytes x : List ℕ} {n : ℕ} → Put l 0 bytes x n → x ≡ over bytes l
put-over {l} {bytes} p = p.lent ∙ ap (λ k. bytes ++ drop k l) (zero-add (length bytes))

put_count : {l bytes x : List ℕ} {n : ℕ} → Put l 0 bytes x n → n ≡ length bytes
put_count {bytes = bytes} p = p.next ∙ zero-add (length bytes)

module _ (job out work : List ℕ) (room : 2055 ≤ length out) (memory : 65536 ≤ length work) where
  -- whatever answers the file, put at the front, with the memory cleared
  pub kept : {count : ℕ} {after cleared : List ℕ} → AnswersFile job out after count → cleared ≡ replicate (length work) 0
      → AnswerPromise small job out work count after cleared
  kept a clear = answered room memory a.answer a.is (put_count a.put) (put-over a.put) clear
