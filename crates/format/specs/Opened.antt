-- Laws of a record's first checks, 2 cut and 3 kind, and then 4 shape: what each outcome of the header comes to.
use Rattle.std.specs.Prelude.{ℕ, ◌+◌, ◌≤◌, ◌≡◌, refl, Bool, true, false, not, cond, List, length, drop, eqb, leb, ltb}
use Rattle.std.proofs.Common.{sym, ◌∙◌, ap, subst, arith, length-take, length-drop, eqb-true, ltb-false}
use Rattle.format.specs.Numbers.{cut, wrong_kind, shape, header_bytes}
use Rattle.format.specs.Reading.{Reading, accepted, refused, refuse_if, ◌and_then◌, Header, ended, broken, whole, header_at, payload_at, u16_at, u32_at, Record, record_from, record_at}
use Rattle.format.specs.Sound.{not-refused, same-accepted}

-- The payload's length, where a record that may stand here is whole: checks 2 and 3.
unfoldable pub opened_from : (ℕ → Bool) → ℕ → Header → Reading ℕ
opened_from may at ended = refused wrong_kind at
opened_from may at broken = refused cut at
opened_from may at (whole kind size) = refuse_if (not (may kind)) wrong_kind at (accepted size)

abbrev pub opened : (ℕ → Bool) → List ℕ → ℕ → Reading ℕ
opened may b at = opened_from may at (header_at b at)

-- the record behind those checks, of a given kind
abbrev pub shaped : (ℕ → List ℕ → Bool) → List ℕ → (at kind size : ℕ) → Reading Record
shaped fits b at kind size =
    refuse_if (not (fits kind (payload_at b at size))) shape at
    (accepted (record { kind = kind; payload = payload_at b at size; next = at + header_bytes + size }))

-- A record of one kind is opened, and then has its shape checked.
pub record-opened : (fits : ℕ → List ℕ → Bool) (b : List ℕ) (at kind : ℕ) → record_at (eqb kind) fits b at ≡ opened (eqb kind) b at and_then shaped fits b at kind
unfolding record_from opened_from
record-opened fits b at kind = go (header_at b at)
  where
    go : (h : Header) → record_from (eqb kind) fits b at h ≡ opened_from (eqb kind) at h and_then shaped fits b at kind
    go ended = refl
    go broken = refl
    go (whole k size) = one (eqb kind k) refl
      where
        one : (x : Bool) → eqb kind k ≡ x → refuse_if (not x) wrong_kind at (shaped fits b at k size) ≡ refuse_if (not x) wrong_kind at (accepted size) and_then shaped fits b at kind
        one true e = ap (λ n. shaped fits b at n size) (sym (eqb-true kind k e))
        one false e = refl

-- A whole record lies within the file, so its payload is as long as it says.
pub whole-inside : (b : List ℕ) (at kind size : ℕ) → header_at b at ≡ whole kind size → at + header_bytes + size ≤ length b
unfolding header_at
whole-inside b at kind size e = go (leb (length b) at) (ltb (length b) (at + header_bytes)) (ltb (length b) (at + header_bytes + u32_at b at)) refl e
  where
    go : (x y z : Bool) → ltb (length b) (at + header_bytes + u32_at b at) ≡ z → cond x ended (cond y broken (cond z broken (whole (u16_at b (at + 4)) (u32_at b at)))) ≡ whole kind size → at + header_bytes + size ≤ length b
    go true y z p q = let w : ◌≡◌ {A = ℕ} 0 1 = cc in absurd (omega arith)
    go false true z p q = let w : ◌≡◌ {A = ℕ} 0 1 = cc in absurd (omega arith)
    go false false true p q = let w : ◌≡◌ {A = ℕ} 0 1 = cc in absurd (omega arith)
    go false false false p q =
        let same : u32_at b at ≡ size = cc in
        omega (arith, ltb-false (length b) (at + header_bytes + u32_at b at) p)

pub opened_inside : (may : ℕ → Bool) (b : List ℕ) (at size : ℕ) → opened may b at ≡ accepted size → at + header_bytes + size ≤ length b
unfolding opened_from
opened_inside may b at size e = go (header_at b at) refl e
  where
    go : (h : Header) → header_at b at ≡ h → opened_from may at h ≡ accepted size → at + header_bytes + size ≤ length b
    go ended p q = let w : ◌≡◌ {A = ℕ} 0 1 = cc in absurd (omega arith)
    go broken p q = let w : ◌≡◌ {A = ℕ} 0 1 = cc in absurd (omega arith)
    go (whole k n) p q = one (may k) q
      where
        one : (x : Bool) → refuse_if (not x) wrong_kind at (accepted n) ≡ accepted size → at + header_bytes + size ≤ length b
        one true q = let same : n ≡ size = cc in omega (arith, whole-inside b at k n p)
        one false q = let w : ◌≡◌ {A = ℕ} 0 1 = cc in absurd (omega arith)

pub payload-long : (b : List ℕ) (at size : ℕ) → at + header_bytes + size ≤ length b → length (payload_at b at size) ≡ size
payload-long b at size h = length-take size (drop (at + header_bytes) b) ∙ (omega (arith, length-drop (at + header_bytes) b))

-- An accepted record is whole: it lies within the file, and its payload ends where the next record begins.
pub record RecordWhole (b : List ℕ) (at : ℕ) (r : Record) : Type 0 where
  pub inside : r.next ≤ length b
  pub ends : at + header_bytes + length r.payload ≡ r.next

pub record-whole : (may : ℕ → Bool) (fits : ℕ → List ℕ → Bool) (b : List ℕ) (at : ℕ) (r : Record) → record_at may fits b at ≡ accepted r → RecordWhole b at r
unfolding record_from
record-whole may fits b at r e = go (header_at b at) refl e
  where
    go : (h : Header) → header_at b at ≡ h → record_from may fits b at h ≡ accepted r → RecordWhole b at r
    go ended p q = let w : ◌≡◌ {A = ℕ} 0 1 = cc in absurd (omega arith)
    go broken p q = let w : ◌≡◌ {A = ℕ} 0 1 = cc in absurd (omega arith)
    go (whole k n) p q =
        let one = not-refused (not (may k)) wrong_kind at _ r q in
        let two = not-refused (not (fits k (payload_at b at n))) shape at _ r one.1 in
        let inside = whole-inside b at k n p in
        subst (RecordWhole b at) (same-accepted _ r two.1)
        (record { inside = inside; ends = ap (λ x. at + header_bytes + x) (payload-long b at n inside) })

pub record-inside : (may : ℕ → Bool) (fits : ℕ → List ℕ → Bool) (b : List ℕ) (at : ℕ) (r : Record) → record_at may fits b at ≡ accepted r → r.next ≤ length b
record-inside may fits b at r e = (record-whole may fits b at r e).inside
