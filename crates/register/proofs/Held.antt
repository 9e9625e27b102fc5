-- The blocks of a register that was read, and what the reading tells of it.
-- Assumes nothing.
use Rattle.std.proofs.Common.{◌≡◌, ℕ, ◌<◌, ◌≤◌, Bool, true, false, not, ltb, List, [], length, Ok, Err, is_ok, Option, Result, refl, ◌∙◌, inl, inr, arith}
use Rattle.std.proofs.lemmas.Bool.{ltb-false}
use Rattle.fault.specs.Refusals.{offline, too_few_blocks}
use Rattle.fault.specs.declared.Fault.{Fault}
use Rattle.device.specs.Disk.{Disk, blocks, entry_at}
use Rattle.octets.specs.Zeros.{every}
use Rattle.pairing.specs.Reservoir.{Reservoir}
use Rattle.journal.specs.Header.{header_of, free_or_refused}
use Rattle.layout.specs.Laws.{Storable, ReadsExactly}
use Rattle.layout.specs.Layout.{Laid, content}
use Rattle.layout.specs.Reading.{unless_fault, bytes_of, decode}
use Rattle.layout.proofs.Faults.{block_reads}
use Rattle.plans.specs.Plans.{and_then, refused_if, at_rest, slot_block_of}
use Rattle.plans.proofs.Contents.{content_is_block}
use Rattle.plans.proofs.Standing.{err_ok}
use Rattle.reader.specs.Reads.{BlockRead}
use Rattle.register.specs.Rested.{Rested, held, resting}

pub ok_is : {A : Type 0} {x y : A} → ◌≡◌ {A = Result A Fault} (Ok x) (Ok y) → x ≡ y
ok_is h = cc

pub slot_laid : (b i : ℕ) → b ≡ slot_block_of i → i < 512 → Laid b
slot_laid b i is h = inr (omega (arith, is), omega (arith, is))

pub few_slots : {X : Type 0} (r : Reservoir X) → Storable r → length r.slots ≤ 512
few_slots r s = let l = s.lawful.ranges in omega (arith, l.limits.1, l.sample.0)

laid_below : (b : ℕ) → Laid b → b < 78
laid_below b (inl z) = omega arith
laid_below b (inr l) = omega (arith, l.1)

module _ {X : Type 0} (code : ℕ) (form : X → List ℕ) (sized : (x : X) → length (form x) ≡ 60)
    (bounded : (x : X) → every (λ b. ltb b 256) (form x) ≡ true) where
  pub read_held :
      (d : Disk) (s : Reservoir X) (b : ℕ) (r : Result (List ℕ) Fault) → Rested code form d s → Laid b → BlockRead d 0 [] b r →
      r ≡ Ok (content code form s b)
  read_held d s b r rested laid read =
      let there = rested.holds b laid in
      let none = block_reads (entry_at d) b (content code form s b) there (content_is_block code form sized bounded s b) in
      read rested.steady (laid_below b laid) ∙ (λ i. unless_fault (none i) (bytes_of (there i)))

-- a register that was read at rest
module _ {X : Type 0} (code : ℕ) (form : X → List ℕ) (reading : List ℕ → Option X) (exactly : ReadsExactly code form reading) (d : Disk)
    (r : Reservoir X) where
  rest_parts :
      (small online : Bool) (header : Result (Unit {0}) Fault) →
      refused_if small (too_few_blocks (blocks d)) (refused_if (not online) (offline 1) (and_then header (λ _. decode code reading (entry_at d)))) ≡ Ok r →
      (small ≡ false) × (online ≡ true) × (decode code reading (entry_at d) ≡ Ok r)
  rest_parts true online header h = absurd (err_ok h)
  rest_parts false false header h = absurd (err_ok h)
  rest_parts false true (Err f) h = absurd (err_ok h)
  rest_parts false true (Ok u) h = (refl, refl, h)

  pub rested : at_rest code reading d ≡ Ok r → Rested code form d r
  unfolding at_rest
  rested h =
      let p = rest_parts (ltb (blocks d) 78) d.online (free_or_refused (header_of (entry_at d 1))) h in
      let many = ltb-false (blocks d) 78 p.0 in
      let e = exactly (entry_at d) r p.2 in
      record { steady = record { online = p.1; inside = λ b l. omega arith }; storable = e.0; holds = e.1 }

-- where a register is at rest, that is what is held
pub rests_is : {X : Type 0} (a : Result (Reservoir X) Fault) → is_ok a ≡ true → a ≡ Ok (held a)
rests_is (Ok r) h = refl
rests_is (Err f) h = absurd (let z : false ≡ true = h in cc)

module _ {X : Type 0} (code : ℕ) (form : X → List ℕ) (reading : List ℕ → Option X) (exactly : ReadsExactly code form reading) (d : Disk) where
  pub rested_held : is_ok (at_rest code reading d) ≡ true → Rested code form d (resting code reading d)
  rested_held h = rested code form reading exactly d (resting code reading d) (rests_is (at_rest code reading d) h)
