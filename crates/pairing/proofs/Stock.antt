-- How many numbers are in stock, sums over the slots, and how many slots there are against the stock. Assumes nothing.
use Rattle.std.proofs.Common.{◌≡◌, ℕ, zero, suc, ◌+◌, ◌*◌, ◌<◌, ◌≤◌, Bool, true, false, not, ◌&&◌, ◌||◌, eqb, ◌≢◌, List, [], ◌∷◌, length, sym, refl, ap, ◌∙◌, subst, ⊎_elim, add-mul, zero-mul, mul-one, arith}
use Rattle.std.proofs.lemmas.Bool.{eq-eqb, ne_eqb, cases_eq}
use Rattle.pairing.specs.Reservoir.{Slot, with, without}
use Rattle.pairing.specs.Rules.{bit, occurs, count_below}
use Rattle.words.proofs.Evenness.{total_like}
use Rattle.words.specs.Laws.{total}
use Rattle.pairing.proofs.Sums.{total_add, total_mark, count_total, count_at}
use Rattle.words.proofs.Sequences.{total_none}

pub bit_most : (b : Bool) → bit b ≤ 1
bit_most true = omega arith
bit_most false = omega arith

pub count_none : (n : ℕ) → count_below (λ p. false) n ≡ 0
count_none n = count_total (λ p. false) n ∙ total_none n

pub count_bound : (s : ℕ → Bool) (n : ℕ) → count_below s n ≤ n
unfolding count_below
count_bound s zero = omega arith
count_bound s (suc n) = let h = count_bound s n in let b = bit_most (s n) in omega (arith, h, b)

-- ---- a number that enters

pub with_same : (s : ℕ → Bool) (p k : ℕ) → k ≡ p → with s p k ≡ true
with_same s p k e = ap (λ b. b || s k) (eq-eqb k p e)

pub with_other : (s : ℕ → Bool) (p k : ℕ) → k ≢ p → with s p k ≡ s k
with_other s p k e = ap (λ b. b || s k) (ne_eqb k p e)

pub count_with : (s : ℕ → Bool) (p n : ℕ) → p < n → s p ≡ false → count_below (with s p) n ≡ count_below s n + 1
count_with s p n h out =
    omega (arith, count_at (with s p) s p n h (λ q not-it. with_other s p q not-it), ap bit (with_same s p p refl), ap bit out)

-- ---- a number that leaves

pub without_same : (s : ℕ → Bool) (p k : ℕ) → k ≡ p → without s p k ≡ false
without_same s p k e = ap (λ b. not b && s k) (eq-eqb k p e)

pub without_other : (s : ℕ → Bool) (p k : ℕ) → k ≢ p → without s p k ≡ s k
without_other s p k e = ap (λ b. not b && s k) (ne_eqb k p e)

pub count_without : (s : ℕ → Bool) (p n : ℕ) → p < n → s p ≡ true → count_below (without s p) n + 1 ≡ count_below s n
count_without s p n h inside =
    omega (arith, count_at (without s p) s p n h (λ q not-it. without_other s p q not-it), ap bit (without_same s p p refl), ap bit inside)

-- ---- how many slots there are, against the stock

-- the sum of f over the slots' numbers
abbrev pub slot_total : {X : Type 0} → (ℕ → ℕ) → List (Slot X) → ℕ
slot_total f [] = 0
slot_total f (x ∷ xs) = f x.number + slot_total f xs

-- it is the sum over the numbers, each as often as it stands in a slot
pub by_packs : {X : Type 0} (f : ℕ → ℕ) (b : ℕ) (xs : List (Slot X)) → ((q : ℕ) → 0 < occurs q xs → q < b) →
    total (λ q. occurs q xs * f q) b ≡ slot_total f xs
by_packs f b [] low = total_like (λ q. 0 * f q) (λ q. 0) b (λ q below. zero-mul (f q)) ∙ total_none b
by_packs f b (x ∷ xs) low =
    let z : ℕ = x.number in
    let here : z < b = low z (omega (arith, ap bit (eq-eqb z z refl))) in
    total_like (λ q. (bit (eqb z q) + occurs q xs) * f q) (λ q. bit (eqb z q) * f q + occurs q xs * f q) b (λ q below. add-mul (bit (eqb z q)) (occurs q xs) (f q))
    ∙ total_add (λ q. bit (eqb z q) * f q) (λ q. occurs q xs * f q) b
    ∙ omega (arith, total_mark f z b here, by_packs f b xs (λ q some. low q (omega arith)))

slot_ones : {X : Type 0} (xs : List (Slot X)) → slot_total (λ q. 1) xs ≡ length xs
slot_ones [] = refl
slot_ones (x ∷ xs) = omega (arith, slot_ones xs)

-- the slots are as many as their numbers, each counted as often as it stands there
pub total_occurs : {X : Type 0} (xs : List (Slot X)) (n : ℕ) → ((p : ℕ) → 1 ≤ occurs p xs → p < n) → total (λ p. occurs p xs) n ≡ length xs
total_occurs xs n low =
    total_like (λ p. occurs p xs) (λ p. occurs p xs * 1) n (λ p below. sym (mul-one (occurs p xs)))
    ∙ by_packs (λ p. 1) n xs (λ p some. low p (omega arith))
    ∙ slot_ones xs

total_within : (f : ℕ → ℕ) (s : ℕ → Bool) → ((p : ℕ) → f p ≤ bit (s p)) → (n : ℕ) → total f n ≤ count_below s n
unfolding total count_below
total_within f s h zero = omega arith
total_within f s h (suc n) = let e = total_within f s h n in let a = h n in omega (arith, e, a)

total_less : (f : ℕ → ℕ) (s : ℕ → Bool) → ((p : ℕ) → f p ≤ bit (s p)) → (q n : ℕ) → q < n → f q < bit (s q) → total f n < count_below s n
unfolding total count_below
total_less f s h q zero lt less = absurd (omega arith)
total_less f s h q (suc n) lt less =
    ⊎_elim
    (λ (is : q ≡ n).
    let e = total_within f s h n in
    let a : f n < bit (s n) = subst (λ k. f k < bit (s k)) is less in
    omega (arith, e, a))
    (λ (not-it : q ≢ n). let e = total_less f s h q n (omega arith) less in let a = h n in omega (arith, e, a))
    (cases_eq q n)

-- where a number is in stock and in no slot, the slots are fewer than the stock
pub slots_less : {X : Type 0} (xs : List (Slot X)) (s : ℕ → Bool) (q n : ℕ) → ((p : ℕ) → occurs p xs ≤ bit (s p)) → ((p : ℕ) → 1 ≤ occurs p xs → p < n) →
    q < n → s q ≡ true → occurs q xs ≡ 0 → length xs < count_below s n
slots_less xs s q n within low lt inside none =
    let a : bit (s q) ≡ 1 = ap bit inside in
    let b : total (λ p. occurs p xs) n < count_below s n = total_less (λ p. occurs p xs) s within q n lt (omega (arith, a, none)) in
    let c = total_occurs xs n low in
    omega (arith, b, c)
