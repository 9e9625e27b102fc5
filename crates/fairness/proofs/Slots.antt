-- Which packs are in the slots, by how often they stand there; the slots after a take; sums by places. Assumes nothing.
use Rattle.std.proofs.Common.{◌≡◌, ℕ, ◌+◌, ◌<◌, Bool, true, false, ◌||◌, eqb, ltb, List, [], ◌∷◌, length, get_or, Some, None, Option, sym, refl, ap, ◌∙◌, arith}
use Rattle.std.proofs.lemmas.Bool.{lt-ltb, le-ltb}
use Rattle.pairing.specs.Reservoir.{Slot, slots_after, one_more_if, one_more_unless}
use Rattle.pairing.specs.Rules.{bit, occurs}
use Rattle.pairing.proofs.Slots.{Found, there, nowhere, length_freed}
use Rattle.pairing.proofs.Stock.{slot_total}
use Rattle.words.specs.Laws.{total}
use Rattle.fairness.specs.Laws.{holds}
use Rattle.fairness.proofs.Sums.{total_front}

either : (b h : Bool) (n : ℕ) → h ≡ ltb 0 n → (b || h) ≡ ltb 0 (bit b + n)
either true h n e = sym (lt-ltb 0 (1 + n) (omega arith))
either false h n e = e ∙ ap (ltb 0) (omega arith)

pub holds_occurs : {X : Type 0} (xs : List (Slot X)) (q : ℕ) → holds xs q ≡ ltb 0 (occurs q xs)
holds_occurs [] q = refl
holds_occurs (x ∷ xs) q = either (eqb x.number q) (holds xs q) (occurs q xs) (holds_occurs xs q)

pub holds_like : {X : Type 0} (xs ys : List (Slot X)) (q : ℕ) → occurs q xs ≡ occurs q ys → holds xs q ≡ holds ys q
holds_like xs ys q e = holds_occurs xs q ∙ ap (ltb 0) e ∙ sym (holds_occurs ys q)

pub holds_some : {X : Type 0} (xs : List (Slot X)) (q : ℕ) → 0 < occurs q xs → holds xs q ≡ true
holds_some xs q l = holds_occurs xs q ∙ lt-ltb 0 (occurs q xs) l

pub holds_none : {X : Type 0} (xs : List (Slot X)) (q : ℕ) → occurs q xs ≡ 0 → holds xs q ≡ false
holds_none xs q e = holds_occurs xs q ∙ le-ltb 0 (occurs q xs) (omega arith)

-- ---- the counters after a take

pub after_length : {X : Type 0} (xs : List (Slot X)) (p c : ℕ) {o : Option ℕ} → Found xs p o → length (slots_after xs o) + one_more_if o c ≡ length xs + c
after_length xs p c (there i h is) = omega (arith, length_freed xs i)
after_length xs p c (nowhere h) = refl

pub after_due : (o : Option ℕ) (c1 c2 : ℕ) → one_more_if o c1 + one_more_unless o c2 ≡ c1 + c2 + 1
after_due None c1 c2 = omega arith
after_due (Some i) c1 c2 = omega arith

-- ---- a sum over the slots, by places

pub by_places : {X : Type 0} (f : ℕ → ℕ) (xs : List (Slot X)) (d : Slot X) → total (λ i. f (get_or xs i d).number) (length xs) ≡ slot_total f xs
unfolding total
by_places f [] d = refl
by_places f (x ∷ xs) d =
    total_front (λ i. f (get_or (x ∷ xs) i d).number) (length xs) ∙ ap (λ k. f x.number + k) (by_places f xs d)
