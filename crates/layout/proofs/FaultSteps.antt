-- The first fault of a slot in use and of a head, at each exit of the code that looks for it.
-- Assumes nothing.
use Rattle.std.proofs.Common.{◌≡◌, ℕ, ◌<◌, ◌≤◌, Bool, true, false, ltb, List, length, take, drop, is_some, Ok, Err, Option, Result, sym, ap, ◌∙◌, arith, length-drop, take_all}
use Rattle.std.proofs.lemmas.Bool.{lt-ltb, le-ltb}
use Rattle.fault.specs.Refusals.{not_register}
use Rattle.fault.specs.declared.Damage.TheVariants as damage
use Rattle.fault.specs.declared.Fault.{Fault}
use Rattle.octets.specs.Numbers.{number_at}
use Rattle.std.specs.Option.{option_or}
use Rattle.layout.specs.Reading.{unless, unless_fault, blank_at, used_fault}

-- the form behind a slot's first four bytes
pub form_read : {X : Type 0} (reading : List ℕ → Option X) (xs : List ℕ) (r : Option X) → length xs ≡ 64 → r ≡ reading (take 60 (drop 4 xs)) → is_some (reading (drop 4 xs)) ≡ is_some r
form_read reading xs r long is =
    ap (λ l. is_some (reading l)) (sym (take_all 60 (drop 4 xs) (simp length-drop (omega arith)))) ∙ ap is_some (sym is)

-- the four tests of a slot in use
abbrev used : ℕ → ℕ → Bool → Bool → Bool → Bool → Result ℕ Fault
used b n zeros range known form =
    unless_fault (option_or (unless zeros b damage.Mark) (option_or (unless range b damage.Range)
    (option_or (unless known b damage.Disagreement) (unless form b damage.Range)))) n

module _ {X : Type 0} (reading : List ℕ → Option X) (set : ℕ → Bool) (b : ℕ) (xs : List ℕ) where
  abbrev pub used_answer : Result ℕ Fault
  used_answer = unless_fault (used_fault reading set b xs) (number_at xs 0 2)

  pub used_mark : (f : Fault) → f ≡ not_register b damage.Mark → blank_at xs 2 2 ≡ false → Err f ≡ used_answer
  unfolding used_fault
  used_mark f is z = ap Err is ∙ sym (ap (λ t. used b (number_at xs 0 2) t (ltb (number_at xs 0 2) 32768) (set (number_at xs 0 2)) (is_some (reading (drop 4 xs)))) z)

  module _ (n : ℕ) (number : n ≡ number_at xs 0 2) (z : blank_at xs 2 2 ≡ true) where
    pub used_range : (f : Fault) → f ≡ not_register b damage.Range → 32768 ≤ n → Err f ≡ used_answer
    unfolding used_fault
    used_range f is h =
        let r : ltb (number_at xs 0 2) 32768 ≡ false = ap (λ k. ltb k 32768) (sym number) ∙ le-ltb n 32768 h in
        ap Err is ∙ sym (λ i. used b (number_at xs 0 2) (z i) (r i) (set (number_at xs 0 2)) (is_some (reading (drop 4 xs))))

    module _ (h : n < 32768) where
      low : ltb (number_at xs 0 2) 32768 ≡ true
      low = ap (λ k. ltb k 32768) (sym number) ∙ lt-ltb n 32768 h

      pub used_absent : (f : Fault) → f ≡ not_register b damage.Disagreement → set n ≡ false → Err f ≡ used_answer
      unfolding used_fault
      used_absent f is a =
          ap Err is ∙ sym (λ i. used b (number_at xs 0 2) (z i) (low i) ((ap set (sym number) ∙ a) i) (is_some (reading (drop 4 xs))))

      module _ (a : set n ≡ true) where
        pub used_unlawful : (f : Fault) → f ≡ not_register b damage.Range → is_some (reading (drop 4 xs)) ≡ false → Err f ≡ used_answer
        unfolding used_fault
        used_unlawful f is l = ap Err is ∙ sym (λ i. used b (number_at xs 0 2) (z i) (low i) ((ap set (sym number) ∙ a) i) (l i))

        pub used_read : is_some (reading (drop 4 xs)) ≡ true → Ok n ≡ used_answer
        unfolding used_fault
        used_read l = ap Ok number ∙ sym (λ i. used b (number_at xs 0 2) (z i) (low i) ((ap set (sym number) ∙ a) i) (l i))
