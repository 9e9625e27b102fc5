-- Lemmas on reading a register at rest: each refusal in its turn.
use Rattle.std.proofs.Common.{◌≡◌, ℕ, ◌≤◌, Bool, true, false, cond, not, ltb, List, [], Some, None, Ok, Err, Option, Result, sym, refl, ap, ◌∙◌, arith}
use Rattle.std.specs.Result.{result_map_both}
use Rattle.std.proofs.lemmas.Bool.{le-ltb, ltb-false}
use Rattle.fault.specs.Refusals.{offline, too_few_blocks}
use Rattle.fault.specs.declared.Fault.{Fault}
use Rattle.device.specs.Disk.{Entry, Disk, blocks, entry_at, reading}
use Rattle.device.specs.declared.DeviceError.{DeviceError}
use Rattle.device.proofs.Disk.{reading_ok, reading_err}
use Rattle.journal.specs.Header.{header_of, free_or_refused}
use Rattle.journal.specs.declared.headers.Header.{Header}
use Rattle.layout.specs.Reading.{decode, unless_fault}
use Rattle.plans.specs.Plans.{at_rest, and_then, refused_if, too_small}
use Rattle.reader.specs.Reads.{Steady, HeaderRead}
use Rattle.reader.proofs.Rests.{no_fault, a_fault}

-- a device that is not too small has the blocks of a register
pub large : (d : Disk) → ◌≡◌ {A = Result (Unit {0}) Fault} (Ok tt) (unless_fault (too_small d) tt) → 78 ≤ blocks d
large d h = go (ltb (blocks d) 78) refl (no_fault _ _ _ h).0
  where
    go : (t : Bool) → ltb (blocks d) 78 ≡ t → cond t (Some (too_few_blocks (blocks d))) None ≡ None → 78 ≤ blocks d
    go true e h = absurd (let z : ◌≡◌ {A = ℕ} 0 1 = cc in omega arith)
    go false e h = ltb-false (blocks d) 78 e

module _ {X : Type 0} (code : ℕ) (read : List ℕ → Option X) (d : Disk) where
  -- the tests in their order
  tests :
      {s o : Bool} {h : Result (Unit {0}) Fault} → ltb (blocks d) 78 ≡ s → d.online ≡ o → free_or_refused (header_of (entry_at d 1)) ≡ h →
      at_rest code read d
      ≡ refused_if s (too_few_blocks (blocks d)) (refused_if (not o) (offline 1) (and_then h (λ _. decode code read (entry_at d))))
  unfolding at_rest
  tests p q r = λ i.
      refused_if (p i) (too_few_blocks (blocks d)) (refused_if (not (q i)) (offline 1) (and_then (r i) (λ _. decode code read (entry_at d))))

  pub small_refused : (x : Fault) → ◌≡◌ {A = Result (Unit {0}) Fault} (Err x) (unless_fault (too_small d) tt) → at_rest code read d ≡ Err x
  small_refused x h = go (ltb (blocks d) 78) refl (a_fault _ _ _ h)
    where
      go : (t : Bool) → ltb (blocks d) 78 ≡ t → cond t (Some (too_few_blocks (blocks d))) None ≡ Some x → at_rest code read d ≡ Err x
      go true e h = tests e refl refl ∙ ap Err (let same : too_few_blocks (blocks d) ≡ x = cc in same)
      go false e h = absurd (let z : ◌≡◌ {A = ℕ} 0 1 = cc in omega arith)

  module _ (enough : 78 ≤ blocks d) where
    pub offline_refused : (x : Fault) → HeaderRead d (Err x) → at_rest code read d ≡ Err x
    offline_refused x = go (reading d 1) refl
      where
        go : (r : Result Entry DeviceError) → r ≡ reading d 1 → Err x ≡ result_map_both header_of (λ _. offline 1) r → at_rest code read d ≡ Err x
        go (Ok e) is h = absurd (let z : ◌≡◌ {A = ℕ} 0 1 = cc in omega arith)
        go (Err y) is h = tests (le-ltb _ _ (omega arith)) (reading_err d 1 y (omega arith) is).0 refl ∙ ap Err (let same : offline 1 ≡ x = cc in same)

    module _ (h : Header) (got : HeaderRead d (Ok h)) where
      there : (d.online ≡ true) × (h ≡ header_of (entry_at d 1))
      there = go (reading d 1) refl got
        where
          go : (r : Result Entry DeviceError) → r ≡ reading d 1 → Ok h ≡ result_map_both header_of (λ _. offline 1) r →
              (d.online ≡ true) × (h ≡ header_of (entry_at d 1))
          go (Ok e) is q =
              let p = reading_ok d 1 e is in
              let same : h ≡ header_of e = cc in
              (p.1, same ∙ ap header_of p.2)
          go (Err y) is q = absurd (let z : ◌≡◌ {A = ℕ} 0 1 = cc in omega arith)

      pub header_refused : (x : Fault) → Err x ≡ free_or_refused h → at_rest code read d ≡ Err x
      header_refused x e = tests (le-ltb _ _ (omega arith)) there.0 (ap free_or_refused (sym there.1) ∙ sym e)

      pub rest_reads : (u : Unit {0}) → Ok u ≡ free_or_refused h → at_rest code read d ≡ decode code read (entry_at d)
      rest_reads u e = tests (le-ltb _ _ (omega arith)) there.0 (ap free_or_refused (sym there.1) ∙ sym e)

      pub rest_steady : Steady d 0 []
      rest_steady = record { online = there.0; inside = λ b h. omega arith }
