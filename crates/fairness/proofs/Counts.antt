-- The counting law, call by call: a count over draw lists is a sum that each call takes on. Assumes nothing.
use Rattle.std.proofs.Common.{◌≡◌, ℕ, zero, suc, ◌+◌, ◌-◌, ◌*◌, ◌<◌, ◌≤◌, min, Bool, true, false, cond, not, ◌&&◌, ◌||◌, ltb, List, [], ◌∷◌, sym, refl, ap, ◌∙◌, subst, inl, inr, mul_assoc, suc-mul, one-mul, mul-zero, zero-mul, mul-one, mul-add, mul_left_comm, arith}
use mathlib.Core.Bool.{beq}
use Rattle.std.proofs.lemmas.Bool.{cases_eq, cases_lt, lt-ltb, le-ltb}
use Rattle.pairing.specs.Reservoir.{Reservoir, empty, with, without, width, store, taken}
use Rattle.pairing.specs.Rules.{bit, occurs, count_below}
use Rattle.pairing.proofs.Slots.{search_found, occurs_other}
use Rattle.pairing.proofs.Stock.{with_same, with_other, without_same, without_other, count_none}
use Rattle.words.proofs.Evenness.{total_like}
use Rattle.words.specs.Laws.{total}
use Rattle.pairing.proofs.Sums.{total_add, count_total, count_at}
use Rattle.fairness.specs.Histories.{Call, Store, Take, Possible, stock_after, size_after, due_after}
use Rattle.fairness.specs.Laws.{weight, factor, product, none}
use Rattle.fairness.proofs.Binomials.{weight_in, weight_out, weight_take, weight_full, weight_other}
use Rattle.fairness.proofs.Sums.{total_times, every_true}
use Rattle.fairness.proofs.Keeping.{Stocked, stocked_none, stocked_with, stocked_without, stocked_some, Keeps, keeps_empty, keeps_store, keeps_taken, breadth, width_kept}
use Rattle.fairness.proofs.Groups.{agree, left}
use Rattle.fairness.proofs.Stores.{lacks, paired_total, filling_total, out_full_total, in_full_total}

-- the sum of f over the ends of a call, and of a history
abbrev pub stepped : {X : Type 0} → Call X → (Reservoir X → ℕ) → Reservoir X → ℕ
stepped (Store p x) f r = total (λ d. f (store r p x d 0)) (width r)
stepped (Take p) f r = f (taken r p)

abbrev pub ways : {X : Type 0} → List (Call X) → (Reservoir X → ℕ) → Reservoir X → ℕ
ways [] f r = f r
ways (c ∷ h) f r = stepped c (ways h f) r

-- how many packs in stock the group has
abbrev pub size_in : ℕ → (ℕ → Bool) → (ℕ → Bool) → ℕ
size_in b st a = count_below (λ q. st q && a q) b

-- a sum over the draw lists of some calls, after which each group is the sample under k times its weight many
pub record Law {X : Type 0} (b m n d : ℕ) (st : ℕ → Bool) (k : ℕ) (over : (Reservoir X → ℕ) → ℕ) : Type 0 where
  pub sum : (f g : Reservoir X → ℕ) → over (λ r. f r + g r) ≡ over f + over g
  pub like : (f g : Reservoir X → ℕ) → ((r : Reservoir X) → Keeps b m n d st r → f r ≡ g r) → over f ≡ over g
  pub even : (a : ℕ → Bool) → over (λ r. bit (agree b st r.slots a)) ≡ k * weight (min m (n + d)) d (size_in b st a)
  pub stocked : Stocked b n st

-- ---- numbers

-- a factor of the count is one of the product
close : (c k w f v : ℕ) → c * w ≡ f * v → c * (k * w) ≡ k * f * v
close c k w f v e = mul_left_comm c k w ∙ ap (λ x. k * x) e ∙ sym (mul_assoc k f v)

factor_due : (m n d : ℕ) → 0 < d → factor m n d ≡ d
factor_due m n d some = ap (λ b. cond b d (cond (ltb n m) 1 (n + 1 - m))) (lt-ltb 0 d some)

factor_fills : (m n d : ℕ) → d ≡ 0 → n < m → factor m n d ≡ 1
factor_fills m n d e l =
    ap (λ b. cond b d (cond (ltb n m) 1 (n + 1 - m))) (le-ltb 0 d (omega arith)) ∙ ap (λ b. cond b 1 (n + 1 - m)) (lt-ltb n m l)

factor_full : (m n d : ℕ) → d ≡ 0 → m ≤ n → factor m n d ≡ n + 1 - m
factor_full m n d e l =
    ap (λ b. cond b d (cond (ltb n m) 1 (n + 1 - m))) (le-ltb 0 d (omega arith)) ∙ ap (λ b. cond b 1 (n + 1 - m)) (le-ltb n m l)

weight_like : {t t' d d' s s' : ℕ} → t ≡ t' → d ≡ d' → s ≡ s' → weight t d s ≡ weight t' d' s'
weight_like {t} {t'} {d} {d'} {s} {s'} e f g = ap (λ x. weight x d s) e ∙ ap (λ x. weight t' x s) f ∙ ap (weight t' d') g

fit : (t d s : ℕ) → d ≡ 0 → t ≡ s → weight t d s ≡ 1
fit t d s none e = ap (λ x. weight t x s) none ∙ weight_full t s e

misfit : (t d s : ℕ) → d ≡ 0 → (t ≡ s → ⊥) → weight t d s ≡ 0
misfit t d s none ne = ap (λ x. weight t x s) none ∙ weight_other t s ne

shared : (t s d : ℕ) (in? : Bool) → 0 < d → cond in? (t - s) (d - (t - s)) * weight t d s ≡ d * weight t (d - 1) (s + bit in?)
shared t s zero in? some = absurd (omega arith)
shared t s (suc d) true some = weight_in t d s ∙ ap (λ x. suc d * weight t x (s + 1)) {x = d} {y = suc d - 1} (omega arith)
shared t s (suc d) false some =
    weight_out t d s ∙ ap (λ x. suc d * x) (weight_like {t = t} {t' = t} {d = d} {d' = suc d - 1} {s = s} {s' = s + 0} refl (omega arith) (omega arith))

-- ---- how many packs in stock a group has

size_with : (b : ℕ) (st a : ℕ → Bool) (p : ℕ) → p < b → st p ≡ false → size_in b (with st p) a ≡ size_in b st a + bit (a p)
size_with b st a p within off =
    omega (
      arith,
      count_at (λ q. with st p q && a q) (λ q. st q && a q) p b within (λ q ne. ap (λ t. t && a q) (with_other st p q ne)),
      ap (λ t. bit (t && a p)) off,
      ap (λ t. bit (t && a p)) (with_same st p p refl),
    )

pub size_more : (b : ℕ) (st a : ℕ → Bool) (y : ℕ) → y < b → st y ≡ true → a y ≡ false → size_in b st (with a y) ≡ size_in b st a + 1
size_more b st a y within on out =
    omega (
      arith,
      count_at (λ q. st q && with a y q) (λ q. st q && a q) y b within (λ q ne. ap (λ t. st q && t) (with_other a y q ne)),
      ap (λ t. bit (t && a y)) on,
      ap bit out,
      ap (λ t. bit (t && with a y y)) on,
      ap bit (with_same a y y refl),
    )

-- against the stock without p
size_left : (b : ℕ) (st a c : ℕ → Bool) (p : ℕ) → p < b → st p ≡ true → ((q : ℕ) → (q ≡ p → ⊥) → c q ≡ a q) →
    size_in b st c ≡ size_in b (without st p) a + bit (c p)
size_left b st a c p within on same =
    omega (
      arith,
      count_at (λ q. st q && c q) (λ q. without st p q && a q) p b within
          (λ q ne. ap (λ t. t && c q) (sym (without_other st p q ne)) ∙ ap (λ t. without st p q && t) (same q ne)),
      ap (λ t. bit (t && c p)) on,
      ap (λ t. bit (t && a p)) (without_same st p p refl),
    )

parted : (s g : Bool) → bit (s && g) + bit (s && not g) ≡ bit s
parted true true = refl
parted true false = refl
parted false g = refl

lacking : (b : ℕ) (st a : ℕ → Bool) → size_in b st a + total (lacks st a) b ≡ count_below st b
lacking b st a =
    let one : size_in b st a ≡ total (λ q. bit (st q && a q)) b = count_total (λ q. st q && a q) b in
    let two : total (λ q. bit (st q && a q) + lacks st a q) b ≡ total (λ q. bit (st q && a q)) b + total (lacks st a) b =
    total_add (λ q. bit (st q && a q)) (lacks st a) b in
    let three : total (λ q. bit (st q && a q) + lacks st a q) b ≡ total (λ q. bit (st q)) b =
    total_like (λ q. bit (st q && a q) + lacks st a q) (λ q. bit (st q)) b (λ q l. parted (st q) (a q)) in
    omega (arith, count_total st b)

-- ---- sums over sums

module _ {X : Type 0} (b m n d : ℕ) (st : ℕ → Bool) (k : ℕ) (over : (Reservoir X → ℕ) → ℕ) (l : Law b m n d st k over) where
  nothing : over (λ r. 0) ≡ 0
  nothing = omega (arith, l.sum (λ r. 0) (λ r. 0))

  scale : (c : ℕ) (f : Reservoir X → ℕ) → over (λ r. c * f r) ≡ c * over f
  scale zero f = l.like (λ r. 0 * f r) (λ r. 0) (λ r kp. zero-mul (f r)) ∙ nothing ∙ sym (zero-mul (over f))
  scale (suc c) f =
      l.like (λ r. suc c * f r) (λ r. c * f r + f r) (λ r kp. suc-mul c (f r))
      ∙ l.sum (λ r. c * f r) f
      ∙ ap (λ x. x + over f) (scale c f)
      ∙ sym (suc-mul c (over f))

  spread : (e : ℕ → ℕ) (f : ℕ → Reservoir X → ℕ) (j : ℕ) → over (λ r. total (λ y. e y * f y r) j) ≡ total (λ y. e y * over (f y)) j
  unfolding total
  spread e f zero = nothing
  spread e f (suc j) =
      l.sum (λ r. e j * f j r) (λ r. total (λ y. e y * f y r) j)
      ∙ ap (λ x. x + over (λ r. total (λ y. e y * f y r) j)) (scale (e j) (f j))
      ∙ ap (λ x. e j * over (f j) + x) (spread e f j)

  module _ (p : ℕ) (item : X) (within : p < b) (off : st p ≡ false) where
    -- the groups after a store
    abbrev later : (ℕ → Bool) → Reservoir X → ℕ
    later a = stepped (Store p item) (λ r. bit (agree b (with st p) r.slots a))

    abbrev draws : (ℕ → Bool) → Reservoir X → ℕ
    draws a r = total (λ x. bit (agree b (with st p) (store r p item x 0).slots a)) (breadth m n d)

    later_draws : (a : ℕ → Bool) (r : Reservoir X) → Keeps b m n d st r → later a r ≡ draws a r
    later_draws a r kp = ap (total (λ x. bit (agree b (with st p) (store r p item x 0).slots a))) (width_kept b m n d st r kp)

    abbrev Even : (ℕ → Bool) → Type 0
    Even a = over (later a) ≡ k * factor m n d * weight (min m (n + 1 + (d - 1))) (d - 1) (size_in b (with st p) a)

    scaled : (a : ℕ → Bool) (c : ℕ) → ((r : Reservoir X) → Keeps b m n d st r → draws a r ≡ c * bit (agree b st r.slots a)) →
        c * weight (min m (n + d)) d (size_in b st a) ≡ factor m n d * weight (min m (n + 1 + (d - 1))) (d - 1) (size_in b (with st p) a) → Even a
    scaled a c each e =
        l.like (later a) (λ r. c * bit (agree b st r.slots a)) (λ r kp. later_draws a r kp ∙ each r kp)
        ∙ scale c (λ r. bit (agree b st r.slots a))
        ∙ ap (λ x. c * x) (l.even a)
        ∙ close c k (weight (min m (n + d)) d (size_in b st a)) (factor m n d) (weight (min m (n + 1 + (d - 1))) (d - 1) (size_in b (with st p) a)) e

    even_paired : (a : ℕ → Bool) → 0 < d → Even a
    even_paired a some =
        scaled a (cond (a p) (min m (n + d) - size_in b st a) (d - (min m (n + d) - size_in b st a)))
        (λ r kp. paired_total b m n d st r kp p item within off a some)
        (shared (min m (n + d)) (size_in b st a) d (a p) some
        ∙ ap (λ x. x * weight (min m (n + d)) (d - 1) (size_in b st a + bit (a p))) (sym (factor_due m n d some))
        ∙ ap (λ x. factor m n d * x)
        (weight_like {t = min m (n + d)} {t' = min m (n + 1 + (d - 1))} {d = d - 1} {d' = d - 1} (omega arith) refl (sym (size_with b st a p within off))))

    filled_weights : (a : ℕ → Bool) → d ≡ 0 → n < m → (t : Bool) → a p ≡ t →
        bit (a p) * weight (min m (n + d)) d (size_in b st a) ≡ weight (min m (n + 1 + (d - 1))) (d - 1) (size_in b (with st p) a)
    filled_weights a none lm true e =
        let s : size_in b (with st p) a ≡ size_in b st a + 1 = omega (arith, size_with b st a p within off, ap bit e) in
        ap (λ t. bit t * weight (min m (n + d)) d (size_in b st a)) e
        ∙ one-mul (weight (min m (n + d)) d (size_in b st a))
        ∙ elim (cases_eq n (size_in b st a)) [
          | inl same ↦ fit (min m (n + d)) d (size_in b st a) none (omega arith) ∙ sym (fit (min m (n + 1 + (d - 1))) (d - 1) (size_in b (with st p) a) (omega arith) (omega arith))
          | inr ne ↦
              misfit (min m (n + d)) d (size_in b st a) none (λ f. ne (omega arith))
              ∙ sym (misfit (min m (n + 1 + (d - 1))) (d - 1) (size_in b (with st p) a) (omega arith) (λ f. ne (omega arith)))
        ]
    filled_weights a none lm false e =
        let s : size_in b (with st p) a ≡ size_in b st a = omega (arith, size_with b st a p within off, ap bit e) in
        let most : size_in b st a ≤ n = omega (arith, lacking b st a, l.stocked.counted) in
        ap (λ t. bit t * weight (min m (n + d)) d (size_in b st a)) e
        ∙ zero-mul (weight (min m (n + d)) d (size_in b st a))
        ∙ sym (misfit (min m (n + 1 + (d - 1))) (d - 1) (size_in b (with st p) a) (omega arith) (λ f. omega arith))

    even_filling : (a : ℕ → Bool) → d ≡ 0 → n < m → Even a
    even_filling a none lm =
        scaled a (bit (a p)) (λ r kp. filling_total b m n d st r kp p item within off a none lm)
        (filled_weights a none lm (a p) refl
        ∙ sym (ap (λ x. x * weight (min m (n + 1 + (d - 1))) (d - 1) (size_in b (with st p) a)) (factor_fills m n d none lm)
        ∙ one-mul (weight (min m (n + 1 + (d - 1))) (d - 1) (size_in b (with st p) a))))

    even_out : (a : ℕ → Bool) → d ≡ 0 → m ≤ n → a p ≡ false → Even a
    even_out a none lm out =
        let s : size_in b st a ≡ size_in b (with st p) a = omega (arith, size_with b st a p within off, ap bit out) in
        scaled a (n + 1 - m) (λ r kp. out_full_total b m n d st r kp p item within off a none lm out)
        (ap (λ x. x * weight (min m (n + d)) d (size_in b st a)) (sym (factor_full m n d none lm))
        ∙ ap (λ x. factor m n d * x)
        (weight_like {t = min m (n + d)} {t' = min m (n + 1 + (d - 1))} {d = d} {d' = d - 1} (omega arith) (omega arith) s))

    -- each pack in stock that the group lacks could have made room
    lack_term : (a : ℕ → Bool) (y : ℕ) → y < b → (t : Bool) → st y ≡ t → (g : Bool) → a y ≡ g →
        bit (t && not g) * over (λ r. bit (agree b st r.slots (with a y))) ≡ bit (t && not g) * (k * weight (min m (n + d)) d (size_in b st a + 1))
    lack_term a y ly true e false f =
        ap (λ x. 1 * x) (l.even (with a y) ∙ ap (λ x. k * weight (min m (n + d)) d x) (size_more b st a y ly e f))
    lack_term a y ly true e true f =
        zero-mul (over (λ r. bit (agree b st r.slots (with a y)))) ∙ sym (zero-mul (k * weight (min m (n + d)) d (size_in b st a + 1)))
    lack_term a y ly false e g f =
        zero-mul (over (λ r. bit (agree b st r.slots (with a y)))) ∙ sym (zero-mul (k * weight (min m (n + d)) d (size_in b st a + 1)))

    full_weights : (a : ℕ → Bool) → d ≡ 0 → m ≤ n → a p ≡ true →
        total (lacks st a) b * weight (min m (n + d)) d (size_in b st a + 1) ≡ factor m n d * weight (min m (n + 1 + (d - 1))) (d - 1) (size_in b (with st p) a)
    full_weights a none lm has =
        let s : size_in b st a + 1 ≡ size_in b (with st p) a = omega (arith, size_with b st a p within off, ap bit has) in
        ap (λ x. total (lacks st a) b * x) (weight_like {t = min m (n + d)} {t' = min m (n + 1 + (d - 1))} {d = d} {d' = d - 1} (omega arith) (omega arith) s)
        ∙ elim (cases_eq m (size_in b st a + 1)) [
          | inl same ↦
              ap (λ x. x * weight (min m (n + 1 + (d - 1))) (d - 1) (size_in b (with st p) a))
              (omega (arith, lacking b st a, l.stocked.counted, factor_full m n d none lm))
          | inr ne ↦
              let w : weight (min m (n + 1 + (d - 1))) (d - 1) (size_in b (with st p) a) ≡ 0 =
              misfit (min m (n + 1 + (d - 1))) (d - 1) (size_in b (with st p) a) (omega arith) (λ f. ne (omega arith)) in
              ap (λ x. total (lacks st a) b * x) w ∙ mul-zero (total (lacks st a) b) ∙ sym (ap (λ x. factor m n d * x) w ∙ mul-zero (factor m n d))
        ]

    even_in : (a : ℕ → Bool) → d ≡ 0 → m ≤ n → a p ≡ true → Even a
    even_in a none lm has =
        let w : ℕ = weight (min m (n + d)) d (size_in b st a + 1) in
        l.like (later a) (λ r. total (λ y. lacks st a y * bit (agree b st r.slots (with a y))) b)
        (λ r kp. later_draws a r kp ∙ in_full_total b m n d st r kp p item within off a none lm has)
        ∙ spread (lacks st a) (λ y r. bit (agree b st r.slots (with a y))) b
        ∙ total_like (λ y. lacks st a y * over (λ r. bit (agree b st r.slots (with a y)))) (λ y. lacks st a y * (k * w)) b
        (λ y ly. lack_term a y ly (st y) refl (a y) refl)
        ∙ total_times (lacks st a) (k * w) b
        ∙ close (total (lacks st a) b) k w (factor m n d) (weight (min m (n + 1 + (d - 1))) (d - 1) (size_in b (with st p) a)) (full_weights a none lm has)

    even_store : (a : ℕ → Bool) → Even a
    even_store a =
        elim (cases_lt 0 d) [
          | inl some ↦ even_paired a some
          | inr zero' ↦
              elim (cases_lt n m) [
                | inl lm ↦ even_filling a (omega arith) lm
                | inr lm ↦ full (omega arith) lm (a p) refl
              ]
        ] where
          full : d ≡ 0 → m ≤ n → (t : Bool) → a p ≡ t → Even a
          full none lm true e = even_in a none lm e
          full none lm false e = even_out a none lm e

    pub law_store : Law b m (n + 1) (d - 1) (with st p) (k * factor m n d) (λ f. over (stepped (Store p item) f))
    law_store = record {
      sum = λ f g.
          l.like (stepped (Store p item) (λ r. f r + g r)) (λ r. stepped (Store p item) f r + stepped (Store p item) g r)
          (λ r kp. total_add (λ x. f (store r p item x 0)) (λ x. g (store r p item x 0)) (width r))
          ∙ l.sum (stepped (Store p item) f) (stepped (Store p item) g);
      like = λ f g same.
          l.like (stepped (Store p item) f) (stepped (Store p item) g)
          (λ r kp.
          total_like (λ x. f (store r p item x 0)) (λ x. g (store r p item x 0)) (width r)
          (λ x lx. same (store r p item x 0) (keeps_store b m n d st r kp p item x 0 within off (subst (λ w. x < w) (width_kept b m n d st r kp) lx))));
      even = even_store;
      stocked = stocked_with b n st p l.stocked within off;
    }

  module _ (p : ℕ) (on : st p ≡ true) where
    taken_occurs : (r : Reservoir X) (q : ℕ) → (q ≡ p → ⊥) → occurs q (taken r p).slots ≡ occurs q r.slots
    unfolding taken
    taken_occurs r q ne = occurs_other q p r.slots (search_found r.slots p) ne

    even_take : (a : ℕ → Bool) →
        over (λ r. bit (agree b (without st p) (taken r p).slots a)) ≡ k * weight (min m (n - 1 + (d + 1))) (d + 1) (size_in b (without st p) a)
    even_take a =
        let within : p < b = l.stocked.low p on in
        let some : 1 ≤ n = stocked_some b n st p l.stocked on in
        let s : ℕ = size_in b (without st p) a in
        let t : ℕ = min m (n + d) in
        let one : over (λ r. bit (agree b st r.slots (with a p))) ≡ k * weight t d (s + 1) =
        l.even (with a p)
        ∙ ap (λ x. k * weight t d x) {x = size_in b st (with a p)} {y = s + 1}
        (omega (arith, size_left b st a (with a p) p within on (λ q ne. with_other a p q ne), ap bit (with_same a p p refl))) in
        let two : over (λ r. bit (agree b st r.slots (without a p))) ≡ k * weight t d s =
        l.even (without a p)
        ∙ ap (λ x. k * weight t d x) {x = size_in b st (without a p)} {y = s}
        (omega (arith, size_left b st a (without a p) p within on (λ q ne. without_other a p q ne), ap bit (without_same a p p refl))) in
        l.like (λ r. bit (agree b (without st p) (taken r p).slots a)) (λ r. bit (agree b st r.slots (with a p)) + bit (agree b st r.slots (without a p)))
        (λ r kp. left b st r.slots kp.slots p within (taken r p).slots a on (λ q ne. taken_occurs r q ne))
        ∙ l.sum (λ r. bit (agree b st r.slots (with a p))) (λ r. bit (agree b st r.slots (without a p)))
        ∙ omega (arith, one, two, mul-add k (weight t d (s + 1)) (weight t d s))
        ∙ ap (λ x. k * x) (weight_take t d s ∙ weight_like {t = t} {t' = min m (n - 1 + (d + 1))} {d = suc d} {d' = d + 1} {s = s} {s' = s} (omega arith) (omega arith) refl)

    pub law_take : Law b m (n - 1) (d + 1) (without st p) k (λ f. over (stepped (Take p) f))
    law_take = record {
      sum = λ f g. l.sum (λ r. f (taken r p)) (λ r. g (taken r p));
      like = λ f g same. l.like (λ r. f (taken r p)) (λ r. g (taken r p)) (λ r kp. same (taken r p) (keeps_taken b m n d st r kp p on));
      even = even_take;
      stocked = stocked_without b n st p l.stocked on;
    }

-- ---- histories

pub law_start : {X : Type 0} (b m : ℕ) → Law {X = X} b m 0 0 none 1 (λ f. f (empty m))
law_start b m = record {
  sum = λ f g. refl;
  like = λ f g same. same (empty m) (keeps_empty b m);
  even = λ a.
      ap bit (every_true (λ q. not (none q) || beq false (a q)) b (λ q l. refl))
      ∙ sym (ap (λ x. 1 * x) (fit (min m (0 + 0)) 0 (size_in b none a) refl (omega (arith, count_none b))));
  stocked = stocked_none b;
}

pub law_after :
    {X : Type 0} (m n d : ℕ) (st : ℕ → Bool) (k : ℕ) (over : (Reservoir X → ℕ) → ℕ) (h : List (Call X)) → Possible st h →
    Law 32768 m n d st k over → Law 32768 m (size_after n h) (due_after d h) (stock_after st h) (k * product m n d h) (λ f. over (ways h f))
law_after m n d st k over [] possible l = subst (λ j. Law 32768 m n d st j over) (sym (mul-one k)) l
law_after m n d st k over (Store p x ∷ h) (within, off, possible) l =
    subst (λ j. Law 32768 m (size_after (n + 1) h) (due_after (d - 1) h) (stock_after (with st p) h) j (λ f. over (stepped (Store p x) (ways h f))))
    (mul_assoc k (factor m n d) (product m (n + 1) (d - 1) h))
    (law_after m (n + 1) (d - 1) (with st p) (k * factor m n d) (λ f. over (stepped (Store p x) f)) h possible (law_store 32768 m n d st k over l p x within off))
law_after m n d st k over (Take p ∷ h) (on, possible) l =
    law_after m (n - 1) (d + 1) (without st p) k (λ f. over (stepped (Take p) f)) h possible (law_take 32768 m n d st k over l p on)
