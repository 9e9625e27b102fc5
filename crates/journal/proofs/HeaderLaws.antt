-- The laws of the journal header.
-- Assumes nothing.
use Rattle.std.proofs.Common.{◌≡◌, ℕ, ◌+◌, ◌^◌, ◌<◌, ◌≤◌, Bool, true, false, cond, ◌&&◌, eqb, ltb, leb, List, [], ◌∷◌, ◌++◌, length, get_or, take, drop, Some, None, codes, Option, sym, refl, ap, ◌∙◌, subst, append-nil, arith, eq-eqb, eqb-true, le-leb, leb-true}
use Rattle.std.specs.List.{AllByRecursion}
use Rattle.std.specs.Str.{bytes_eq}
use Rattle.std.proofs.lemmas.Slice.Eq.{bytes_eq-Decides}
use Rattle.std.proofs.lemmas.List.{drop_more, drop_all}
use Rattle.std.proofs.lemmas.Bool.{and_parts, and_from, cond-true, cond-false, ltb-true, lt-ltb}
use Rattle.octets.specs.Numbers.{little, value_of, number_at}
use Rattle.octets.specs.Zeros.{zeros, every, blank}
use Rattle.octets.proofs.Numbers.{value_little, bytes_there, number_there_lt, zeros_there, cut}
use Rattle.octets.proofs.Under.{under_all}
use Rattle.journal.specs.declared.headers.Header.TheVariants as header
use Rattle.journal.specs.declared.headers.Pending.{Pending}
use Rattle.journal.specs.declared.headers.PendingCall.{PendingCall}
use Rattle.journal.specs.declared.headers.PendingCall.TheVariants.{Store, Take}
use Rattle.journal.specs.declared.headers.fields.CallFields.{CallFields}
use Rattle.journal.specs.declared.headers.fields.Fields.{Fields}
use Rattle.journal.specs.Header.{free_bytes, field_bytes, block_of, call_fields, fields_for, pending_bytes, reserved_zero, marked, fields_of}
use Rattle.journal.specs.Header.{store_of, take_of, call_of, with_call, pending_of, lawful_blocks, or_unlawful, bytes_header, header_of}
use Rattle.journal.specs.HeaderLaws.{LawfulCall, LawfulBlocks, Lawful, HeadersReadBack, HeadersAreExact}

-- ---- bytes of fields, read

-- each field has a value that its bytes can hold
record Fits (f : Fields) : Type 0 where
  number : f.number < 256 ^ 2
  width : f.call.width < 256 ^ 4
  draw : f.call.draw < 256 ^ 4
  calls : f.calls < 256 ^ 8
  words : f.words < 256 ^ 8
  four : length f.blocks ≡ 4
  first : block_of f 0 < 256 ^ 2
  second : block_of f 1 < 256 ^ 2
  third : block_of f 2 < 256 ^ 2
  fourth : block_of f 3 < 256 ^ 2

four_back : (bs : List ℕ) → length bs ≡ 4 → get_or bs 0 0 ∷ get_or bs 1 0 ∷ get_or bs 2 0 ∷ get_or bs 3 0 ∷ [] ≡ bs
four_back [] h = absurd (omega arith)
four_back (a ∷ []) h = absurd (omega arith)
four_back (a ∷ b ∷ []) h = absurd (omega arith)
four_back (a ∷ b ∷ c ∷ []) h = absurd (omega arith)
four_back (a ∷ b ∷ c ∷ d ∷ []) h = refl
four_back (a ∷ b ∷ c ∷ d ∷ e ∷ bs) h = absurd (omega arith)

fields_back : (f : Fields) → Fits f → fields_of (field_bytes f) ≡ f
unfolding field_bytes
fields_back f h =
    let some : value_of (little 2 (block_of f 0)) ∷ value_of (little 2 (block_of f 1)) ∷ value_of (little 2 (block_of f 2)) ∷ value_of (little 2 (block_of f 3)) ∷ [] ≡ f.blocks =
    (λ i. value_little 2 (block_of f 0) h.first i ∷ value_little 2 (block_of f 1) h.second i ∷ value_little 2 (block_of f 2) h.third i ∷ value_little 2 (block_of f 3) h.fourth i ∷ [])
    ∙ four_back f.blocks h.four in
    λ i. record {
      call = record {
        letter = f.call.letter;
        width = value_little 4 f.call.width h.width i;
        draw = value_little 4 f.call.draw h.draw i;
        used = f.call.used;
      };
      number = value_little 2 f.number h.number i;
      calls = value_little 8 f.calls h.calls i;
      words = value_little 8 f.words h.words i;
      blocks = some i;
    }

marked_back : (f : Fields) → marked (field_bytes f) ≡ true
unfolding field_bytes
marked_back f = refl

not_free_lem : (f : Fields) → bytes_eq (field_bytes f) free_bytes ≡ false
unfolding field_bytes free_bytes
not_free_lem f = refl

-- ---- a lawful call, read

call_back : (c : PendingCall) → LawfulCall c → call_of (call_fields c) ≡ Some c
call_back (Store width draw used) h =
    cond-true _ _ _
    (and_from _ _ (le-leb 1 width h.0) (and_from _ _ (le-leb width 32768 h.1) (and_from _ _ (lt-ltb draw width h.2) (le-leb used 64 h.3))))
call_back Take h = refl

blocks_back : (bs : List ℕ) → LawfulBlocks bs → lawful_blocks bs ≡ true
blocks_back bs h =
    and_from _ _ (and_from _ _ (le-leb 14 _ h.first.0) (le-leb _ 77 h.first.1))
    (and_from _ _ (and_from _ _ (le-leb 14 _ h.second.0) (le-leb _ 77 h.second.1))
    (and_from _ _ (and_from _ _ (le-leb 6 _ h.third.0) (le-leb _ 13 h.third.1)) (eq-eqb _ 0 h.fourth)))

pending_back : (p : Pending) → Lawful p → pending_of (fields_for p) ≡ Some p
pending_back p h =
    cond-true _ _ _ (and_from _ _ (lt-ltb p.number 32768 h.number) (blocks_back p.blocks h.blocks))
    ∙ ap (with_call (fields_for p)) (call_back p.call h.call)

call_fits : (c : PendingCall) → LawfulCall c → ((call_fields c).width < 256 ^ 4) × ((call_fields c).draw < 256 ^ 4)
call_fits (Store width draw used) h = (omega arith, omega arith)
call_fits Take h = (omega arith, omega arith)

fits : (p : Pending) → Lawful p → Fits (fields_for p)
fits p h =
    let c = call_fits p.call h.call in
    let b = h.blocks in
    record {
      number = omega arith;
      width = c.0;
      draw = c.1;
      calls = omega arith;
      words = omega arith;
      four = b.four;
      first = omega arith;
      second = omega arith;
      third = omega arith;
      fourth = omega arith;
    }

-- ---- a marked header is read by its fields

pub read_marked :
    (bs : List ℕ) (o : Option Pending) → bytes_eq bs free_bytes ≡ false → marked bs ≡ true → pending_of (fields_of bs) ≡ o →
    bytes_header bs ≡ or_unlawful o
read_marked bs o other m is = cond-false _ _ _ other ∙ cond-true _ _ _ m ∙ ap or_unlawful is

-- ---- a header fills its block

pub free_sized_lem : length free_bytes ≡ 512
unfolding free_bytes
free_sized_lem = refl

pub pending_sized_lem : (p : Pending) → length (pending_bytes p) ≡ 512
unfolding field_bytes
pending_sized_lem p = refl

pub headers_read_back : HeadersReadBack
unfolding header_of
headers_read_back = record {
  free_sized = free_sized_lem;
  pending_sized = pending_sized_lem;
  free = cond-true _ _ _ ((bytes_eq-Decides free_bytes free_bytes).1 refl);
  pending = λ p h.
      read_marked (pending_bytes p) _ (not_free_lem (fields_for p)) (marked_back (fields_for p))
      (ap pending_of (fields_back (fields_for p) (fits p h)) ∙ pending_back p h);
}

-- ---- what bytes that read as pending are

module _ (bs : List ℕ) (sized : length bs ≡ 512) (small : AllByRecursion (λ b. b < 256) bs) where
  number_part : (at count next : ℕ) → at + count ≡ next → at + count ≤ 512 → drop at bs ≡ little count (number_at bs at count) ++ drop next bs
  number_part at count next e h = cut bs _ _ at count next e (bytes_there bs at count (omega arith) (under_all bs small)) refl

  number_below : (at count : ℕ) → at + count ≤ 512 → number_at bs at count < 256 ^ count
  number_below at count h = number_there_lt bs at count (omega arith) (under_all bs small)

  zeros_part : (at count next : ℕ) → at + count ≡ next → at + count ≤ 512 → every blank (take count (drop at bs)) ≡ true → drop at bs ≡ zeros count ++ drop next bs
  zeros_part at count next e h z = cut bs _ _ at count next e (zeros_there bs at count (omega arith) z) refl

  bytes_are : marked bs ≡ true → bs ≡ field_bytes (fields_of bs)
  unfolding field_bytes
  bytes_are m =
      let mark = and_parts (bytes_eq (take 4 bs) (codes "JRNL")) (reserved_zero bs) m in
      let five = and_parts (eqb (get_or bs 5 0) 0) (every blank (take 7 (drop 33 bs)) && every blank (take 464 (drop 48 bs))) mark.1 in
      let rest = and_parts (every blank (take 7 (drop 33 bs))) (every blank (take 464 (drop 48 bs))) five.1 in
      let f = fields_of bs in
      let end : drop 512 bs ≡ [] = drop_all 512 bs (omega arith) in
      let p48 : drop 48 bs ≡ zeros 464 ++ drop 512 bs = zeros_part 48 464 512 refl (omega arith) rest.1 in
      cut bs _ _ 0 4 4 refl ((bytes_eq-Decides (take 4 bs) (codes "JRNL")).0 mark.0) refl
      ∙ ap (λ r. codes "JRNL" ++ r) (drop_more bs 4 0 (omega arith))
      ∙ ap (λ r. codes "JRNL" ++ (get_or bs 4 0 ∷ r)) (drop_more bs 5 0 (omega arith) ∙ ap (λ b. b ∷ drop 6 bs) (eqb-true (get_or bs 5 0) 0 five.0))
      ∙ ap (λ r. codes "JRNL" ++ (get_or bs 4 0 ∷ 0 ∷ r))
      (number_part 6 2 8 refl (omega arith)
      ∙ ap (λ r. little 2 f.number ++ r)
      (number_part 8 4 12 refl (omega arith)
      ∙ ap (λ r. little 4 f.call.width ++ r)
      (number_part 12 4 16 refl (omega arith)
      ∙ ap (λ r. little 4 f.call.draw ++ r)
      (number_part 16 8 24 refl (omega arith)
      ∙ ap (λ r. little 8 f.calls ++ r)
      (number_part 24 8 32 refl (omega arith)
      ∙ ap (λ r. little 8 f.words ++ r)
      (drop_more bs 32 0 (omega arith)
      ∙ ap (λ r. f.call.used ∷ r)
      (zeros_part 33 7 40 refl (omega arith) rest.0
      ∙ ap (λ r. zeros 7 ++ r)
      (number_part 40 2 42 refl (omega arith)
      ∙ ap (λ r. little 2 (block_of f 0) ++ r)
      (number_part 42 2 44 refl (omega arith)
      ∙ ap (λ r. little 2 (block_of f 1) ++ r)
      (number_part 44 2 46 refl (omega arith)
      ∙ ap (λ r. little 2 (block_of f 2) ++ r)
      (number_part 46 2 48 refl (omega arith)
      ∙ ap (λ r. little 2 (block_of f 3) ++ r)
      (p48 ∙ ap (λ r. zeros 464 ++ r) end ∙ append-nil (zeros 464)))))))))))))

-- ---- what fields that are in their ranges are

store_are :
    (f : CallFields) (c : PendingCall) (t : Bool) → f.letter ≡ 83 →
    (leb 1 f.width && (leb f.width 32768 && (ltb f.draw f.width && leb f.used 64))) ≡ t →
    cond t (Some (Store f.width f.draw f.used)) None ≡ Some c → LawfulCall c × (call_fields c ≡ f)
store_are f c true letter test is =
    let least = and_parts (leb 1 f.width) (leb f.width 32768 && (ltb f.draw f.width && leb f.used 64)) test in
    let most = and_parts (leb f.width 32768) (ltb f.draw f.width && leb f.used 64) least.1 in
    let rest = and_parts (ltb f.draw f.width) (leb f.used 64) most.1 in
    let same : Store f.width f.draw f.used ≡ c = cc in
    subst (λ c. LawfulCall c × (call_fields c ≡ f)) same (
      (leb-true 1 _ least.0, leb-true _ 32768 most.0, ltb-true _ _ rest.0, leb-true _ 64 rest.1),
      λ i. record { letter = sym letter i; width = f.width; draw = f.draw; used = f.used },
    )
store_are f c false letter test is = absurd (let z : ◌≡◌ {A = ℕ} 0 1 = cc in omega arith)

take_are :
    (f : CallFields) (c : PendingCall) (t : Bool) → f.letter ≡ 84 →
    (eqb f.width 0 && (eqb f.draw 0 && eqb f.used 0)) ≡ t → cond t (Some Take) None ≡ Some c →
    LawfulCall c × (call_fields c ≡ f)
take_are f c true letter test is =
    let width = and_parts (eqb f.width 0) (eqb f.draw 0 && eqb f.used 0) test in
    let rest = and_parts (eqb f.draw 0) (eqb f.used 0) width.1 in
    let same : Take ≡ c = cc in
    subst (λ c. LawfulCall c × (call_fields c ≡ f)) same (
      tt,
      λ i. record {
        letter = sym letter i;
        width = sym (eqb-true f.width 0 width.0) i;
        draw = sym (eqb-true f.draw 0 rest.0) i;
        used = sym (eqb-true f.used 0 rest.1) i;
      },
    )
take_are f c false letter test is = absurd (let z : ◌≡◌ {A = ℕ} 0 1 = cc in omega arith)

call_are : (f : CallFields) (c : PendingCall) → call_of f ≡ Some c → LawfulCall c × (call_fields c ≡ f)
call_are f c is = go (eqb f.letter 83) (eqb f.letter 84) refl refl is
  where
    go :
        (s t : Bool) → eqb f.letter 83 ≡ s → eqb f.letter 84 ≡ t → cond s (store_of f) (cond t (take_of f) None) ≡ Some c →
        LawfulCall c × (call_fields c ≡ f)
    go true t p q r = store_are f c _ (eqb-true f.letter 83 p) refl r
    go false true p q r = take_are f c _ (eqb-true f.letter 84 q) refl r
    go false false p q r = absurd (let z : ◌≡◌ {A = ℕ} 0 1 = cc in omega arith)

pub blocks_are : (bs : List ℕ) → length bs ≡ 4 → lawful_blocks bs ≡ true → LawfulBlocks bs
blocks_are bs four h =
    let a = and_parts (leb 14 (get_or bs 0 0) && leb (get_or bs 0 0) 77) _ h in
    let b = and_parts (leb 14 (get_or bs 1 0) && leb (get_or bs 1 0) 77) _ a.1 in
    let c = and_parts (leb 6 (get_or bs 2 0) && leb (get_or bs 2 0) 13) _ b.1 in
    let first = and_parts (leb 14 (get_or bs 0 0)) _ a.0 in
    let second = and_parts (leb 14 (get_or bs 1 0)) _ b.0 in
    let third = and_parts (leb 6 (get_or bs 2 0)) _ c.0 in
    record {
      four = four;
      first = (leb-true 14 _ first.0, leb-true _ 77 first.1);
      second = (leb-true 14 _ second.0, leb-true _ 77 second.1);
      third = (leb-true 6 _ third.0, leb-true _ 13 third.1);
      fourth = eqb-true _ 0 c.1;
    }

-- the fields of a pending call whose counts fit
with_call_lem :
    (f : Fields) (o : Option PendingCall) (p : Pending) → call_of f.call ≡ o → with_call f o ≡ Some p → f.number < 32768 →
    f.calls < 2 ^ 64 → f.words < 2 ^ 64 → LawfulBlocks f.blocks → Lawful p × (fields_for p ≡ f)
with_call_lem f None p call is n q w b = absurd (let z : ◌≡◌ {A = ℕ} 0 1 = cc in omega arith)
with_call_lem f (Some c) p call is n q w b =
    let g : Pending = record { call = c; number = f.number; calls = f.calls; words = f.words; blocks = f.blocks } in
    let same : g ≡ p = cc in
    let k = call_are f.call c call in
    subst (λ p. Lawful p × (fields_for p ≡ f)) same (
      record { call = k.0; number = n; calls = q; words = w; blocks = b },
      λ i. record { call = k.1 i; number = f.number; calls = f.calls; words = f.words; blocks = f.blocks },
    )

pending_are :
    (f : Fields) (p : Pending) → f.calls < 2 ^ 64 → f.words < 2 ^ 64 → length f.blocks ≡ 4 → pending_of f ≡ Some p →
    Lawful p × (fields_for p ≡ f)
pending_are f p q w four is = go (ltb f.number 32768 && lawful_blocks f.blocks) refl is
  where
    go :
        (t : Bool) → (ltb f.number 32768 && lawful_blocks f.blocks) ≡ t →
        cond t (with_call f (call_of f.call)) None ≡ Some p → Lawful p × (fields_for p ≡ f)
    go true e r =
        let b = and_parts (ltb f.number 32768) (lawful_blocks f.blocks) e in
        with_call_lem f (call_of f.call) p refl r (ltb-true _ 32768 b.0) q w (blocks_are f.blocks four b.1)
    go false e r = absurd (let z : ◌≡◌ {A = ℕ} 0 1 = cc in omega arith)

pub read_pending :
    (t m : Bool) (o : Option Pending) (p : Pending) → cond t header.Free (cond m (or_unlawful o) header.Other) ≡ header.Pending p →
    (m ≡ true) × (o ≡ Some p)
read_pending true m o p e = absurd (let z : ◌≡◌ {A = ℕ} 0 1 = cc in omega arith)
read_pending false true None p e = absurd (let z : ◌≡◌ {A = ℕ} 0 1 = cc in omega arith)
read_pending false true (Some q) p e = (refl, cc)
read_pending false false o p e = absurd (let z : ◌≡◌ {A = ℕ} 0 1 = cc in omega arith)

read_free : (t m : Bool) (o : Option Pending) → cond t header.Free (cond m (or_unlawful o) header.Other) ≡ header.Free → t ≡ true
read_free true m o e = refl
read_free false true None e = absurd (let z : ◌≡◌ {A = ℕ} 0 1 = cc in omega arith)
read_free false true (Some q) e = absurd (let z : ◌≡◌ {A = ℕ} 0 1 = cc in omega arith)
read_free false false o e = absurd (let z : ◌≡◌ {A = ℕ} 0 1 = cc in omega arith)

exact_pending :
    (bs : List ℕ) (p : Pending) → length bs ≡ 512 → AllByRecursion (λ b. b < 256) bs → header_of (Some bs) ≡ header.Pending p →
    Lawful p × (bs ≡ pending_bytes p)
unfolding header_of
exact_pending bs p sized small is =
    let r = read_pending (bytes_eq bs free_bytes) (marked bs) (pending_of (fields_of bs)) p is in
    let k = pending_are (fields_of bs) p (number_below bs sized small 16 8 (omega arith)) (number_below bs sized small 24 8 (omega arith)) refl r.1 in
    (k.0, bytes_are bs sized small r.0 ∙ ap field_bytes (sym k.1))

pub headers_are_exact : HeadersAreExact
unfolding header_of
headers_are_exact = record {
  free = λ bs is. (bytes_eq-Decides bs free_bytes).0 (read_free (bytes_eq bs free_bytes) (marked bs) (pending_of (fields_of bs)) is);
  pending = exact_pending;
}
