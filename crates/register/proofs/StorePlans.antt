-- The plan of a store: each refusal in its turn.
-- Assumes nothing.
use Rattle.std.proofs.Common.{◌≡◌, ℕ, Bool, false, eqb, ltb, List, Ok, Err, Option, Result, sym, refl, ap, ◌∙◌, arith}
use Rattle.std.proofs.lemmas.Bool.{ltb-false, eqb-false}
use Rattle.fault.specs.Refusals.{number_too_large, in_stock, last_call}
use Rattle.fault.specs.declared.Fault.{Fault}
use Rattle.device.specs.Disk.{Disk}
use Rattle.pairing.specs.Reservoir.{Reservoir}
use Rattle.layout.specs.Laws.{Storable}
use Rattle.layout.specs.Reading.{in_set}
use Rattle.plans.specs.Plans.{Plan, StoreAnswer, and_then, refused_if, at_rest, store_plan}
use Rattle.reader.specs.Reads.{Finds}
use Rattle.reader.specs.declared.Found.{Found}
use Rattle.register.specs.Stores.{Accepts, drawn_plan}
use Rattle.register.proofs.Checks.{Answers, one_lost_lem, one_passed, two_lost, two_passed}

module _ {X : Type 0} (code : ℕ) (form : X → List ℕ) (read : List ℕ → Option X) (d : Disk) (number : ℕ) (item : X)
    (words : ℕ → Option ℕ) where
  abbrev plan : Result (Plan StoreAnswer) Fault
  plan = store_plan code form read d number item words

  abbrev rest : Reservoir X → Result (Plan StoreAnswer) Fault
  rest r = drawn_plan code form r number item words

  -- the tests in their order
  tests :
      {large : Bool} {a : Result (Reservoir X) Fault} → ltb 32767 number ≡ large → at_rest code read d ≡ a →
      plan
      ≡ refused_if large number_too_large (and_then a (λ r.
      refused_if (eqb r.calls 4294967295) last_call (refused_if (r.stock number) in_stock (rest r))))
  unfolding store_plan
  tests p q = λ i.
      refused_if (p i) number_too_large (and_then (q i) (λ r.
      refused_if (eqb r.calls 4294967295) last_call (refused_if (r.stock number) in_stock (rest r))))

  -- the check of the number
  abbrev sized : Result (Unit {0}) Fault
  sized = refused_if (ltb 32767 number) number_too_large (Ok tt)

  pub large_refused : (y : Fault) → Answers (Err y) sized → plan ≡ Err y
  large_refused y e = tests refl refl ∙ one_lost_lem (ltb 32767 number) number_too_large y _ e

  module _ (u : Unit {0}) (small : Answers (Ok u) sized) where
    low : ltb 32767 number ≡ false
    low = one_passed (ltb 32767 number) number_too_large u small

    pub unread_refused : (x : Fault) → at_rest code read d ≡ Err x → plan ≡ Err x
    unread_refused x e = tests low e

    module _ (f : Found) (r : Reservoir X) (found : at_rest code read d ≡ Ok r) (finds : Finds f r) where
      -- the check of what was found
      abbrev checked : {A : Type 0} → Result A Fault → Result A Fault
      checked later =
          refused_if (eqb f.counters.counts.calls 4294967295) last_call (refused_if (in_set f.stock.bytes number) in_stock later)

      later : plan ≡ checked (rest r)
      later =
          tests low found
          ∙ (λ i. refused_if (eqb (sym finds.counts i).calls 4294967295) last_call (refused_if (sym (finds.stock number) i) in_stock (rest r)))

      pub check_refused : (y : Fault) → Answers (Err y) (checked (Ok tt)) → plan ≡ Err y
      check_refused y e =
          later ∙ two_lost (eqb f.counters.counts.calls 4294967295) (in_set f.stock.bytes number) last_call in_stock y (rest r) e

      module _ (v : Unit {0}) (passed : Answers (Ok v) (checked (Ok tt))) where
        both : (eqb f.counters.counts.calls 4294967295 ≡ false) × (in_set f.stock.bytes number ≡ false)
        both = two_passed (eqb f.counters.counts.calls 4294967295) (in_set f.stock.bytes number) last_call in_stock v passed

        pub goes_on_lem : plan ≡ rest r
        goes_on_lem = later ∙ (λ i. refused_if (both.0 i) last_call (refused_if (both.1 i) in_stock (rest r)))

        pub accepts : Storable r → Accepts r number
        accepts storable = record {
          low = let l = ltb-false 32767 number low in omega (arith, l);
          outside = sym (finds.stock number) ∙ both.1;
          early =
              let other = eqb-false f.counters.counts.calls 4294967295 both.0 in
              let same : f.counters.counts.calls ≡ r.calls = ap (λ n. n.calls) finds.counts in
              let most = storable.countable in
              omega (arith, other, same, most);
        }
