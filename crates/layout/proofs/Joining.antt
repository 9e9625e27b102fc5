-- Parts of one length, joined: where each stands, and how one of them is changed.
-- Assumes nothing.
use Rattle.std.proofs.Common.{◌≡◌, ℕ, zero, suc, ◌+◌, ◌*◌, ◌<◌, ◌≤◌, ◌≢◌, List, ◌++◌, length, get_or, take, drop, sym, refl, ap, ◌∙◌, append_assoc, mul-zero, mul-suc, arith, length-append, length-drop, take-append-drop, drop-drop, take_at, drop_at}
use lib.ListN.{get_or-append}
use lib.Seq.{take-append-add, drop-append-add}
use Rattle.std.proofs.lemmas.List.{nil_from_length, get_or-append-add}
use Rattle.octets.proofs.Under.{under_append, Under256}
use Rattle.layout.specs.Layout.{joined}

module _ (part : ℕ → List ℕ) (w : ℕ) where
  pub length_joined : (i n : ℕ) → ((b : ℕ) → i ≤ b → b < i + n → length (part b) ≡ w) → length (joined part i n) ≡ w * n
  length_joined i zero long = omega arith
  length_joined i (suc n) long =
      let first = long i (omega arith) (omega arith) in
      let rest = length_joined (i + 1) n (λ b l h. long b (omega arith) (omega arith)) in
      length-append (part i) (joined part (i + 1) n) ∙ omega (arith, first, rest, mul-suc w n)

  -- byte k of the j-th part
  pub get_d_joined : (i n j k : ℕ) → ((b : ℕ) → i ≤ b → b < i + n → length (part b) ≡ w) → j < n → k < w →
      get_or (joined part i n) (w * j + k) 0 ≡ get_or (part (i + j)) k 0
  get_d_joined i zero j k long h l = absurd (omega arith)
  get_d_joined i (suc n) zero k long h l =
      let first = long i (omega arith) (omega arith) in
      let e : w * 0 + k ≡ k = omega (arith, mul-zero w) in
      ap (λ m. get_or (part i ++ joined part (i + 1) n) m 0) e
      ∙ get_or-append (part i) (joined part (i + 1) n) 0 k (omega (arith, first, l))
      ∙ ap (λ m. get_or (part m) k 0) (omega arith)
  get_d_joined i (suc n) (suc j) k long h l =
      let first = long i (omega arith) (omega arith) in
      let e : w * suc j + k ≡ length (part i) + (w * j + k) = omega (arith, mul-suc w j, first) in
      ap (λ m. get_or (part i ++ joined part (i + 1) n) m 0) e
      ∙ get_or-append-add (part i) (joined part (i + 1) n) (w * j + k) 0
      ∙ get_d_joined (i + 1) n j k (λ b a c. long b (omega arith) (omega arith)) (omega arith) l
      ∙ ap (λ m. get_or (part m) k 0) (omega arith)

pub joined_under : (part : ℕ → List ℕ) (i n : ℕ) → ((b : ℕ) → i ≤ b → b < i + n → Under256 (part b)) → Under256 (joined part i n)
joined_under part i zero under = refl
joined_under part i (suc n) under =
    under_append (part i) (joined part (i + 1) n) (under i (omega arith) (omega arith))
    (joined_under part (i + 1) n (λ b l h. under b (omega arith) (omega arith)))

-- parts counted from another place on
pub joined_shift : (part : ℕ → List ℕ) (a i n : ℕ) → joined part (a + i) n ≡ joined (λ j. part (a + j)) i n
joined_shift part a i zero = refl
joined_shift part a i (suc n) =
    ap (λ l. part (a + i) ++ l) (ap (λ k. joined part k n) {y = a + (i + 1)} (omega arith) ∙ joined_shift part a (i + 1) n)

-- the same parts
pub joined_like : (part part' : ℕ → List ℕ) (i n : ℕ) → ((b : ℕ) → i ≤ b → b < i + n → part b ≡ part' b) → joined part i n ≡ joined part' i n
joined_like part part' i zero same = refl
joined_like part part' i (suc n) same =
    λ t. same i (omega arith) (omega arith) t ++ joined_like part part' (i + 1) n (λ b l h. same b (omega arith) (omega arith)) t

-- one part of m elements among others
module _ (m : ℕ) (part : ℕ → List ℕ) (sized : (i : ℕ) → length (part i) ≡ m) where
  -- the k-th of them
  pub joined_at : (i n k : ℕ) → k < n → take m (drop (m * k) (joined part i n)) ≡ part (i + k)
  joined_at i zero k h = absurd (omega arith)
  joined_at i (suc n) zero h =
      ap (λ d. take m (drop d (joined part i (suc n)))) (mul-zero m)
      ∙ take_at (part i) (joined part (i + 1) n) m (sized i)
      ∙ ap part (omega arith)
  joined_at i (suc n) (suc k) h =
      let s = sized i in
      let d : m * suc k ≡ length (part i) + m * k = omega (arith, mul-suc m k) in
      ap (λ d. take m (drop d (joined part i (suc n)))) d
      ∙ ap (take m) (drop-append-add (part i) (joined part (i + 1) n) (m * k))
      ∙ joined_at (i + 1) n k (omega arith)
      ∙ ap part (omega arith)

  -- a list of such parts is these, joined
  pub joined_is : (i n : ℕ) (xs : List ℕ) → length xs ≡ m * n → ((k : ℕ) → k < n → take m (drop (m * k) xs) ≡ part (i + k)) → xs ≡ joined part i n
  joined_is i zero xs l h = nil_from_length xs (l ∙ mul-zero m)
  joined_is i (suc n) xs l h =
      let first : take m xs ≡ part i = ap (λ d. take m (drop d xs)) (sym (mul-zero m)) ∙ h 0 (omega arith) ∙ ap part (omega arith) in
      let rest : drop m xs ≡ joined part (i + 1) n =
      joined_is (i + 1) n (drop m xs) (omega (arith, length-drop m xs, mul-suc m n)) (λ k b.
      let d : m + m * k ≡ m * suc k = omega (arith, mul-suc m k) in
      ap (take m) (drop-drop (m * k) m xs) ∙ ap (λ d. take m (drop d xs)) d ∙ h (suc k) (omega arith) ∙ ap part (omega arith)) in
      sym (take-append-drop m xs) ∙ (λ j. first j ++ rest j)

  -- the k-th is changed
  pub joined_changed : (other : ℕ → List ℕ) (i n k : ℕ) (new : List ℕ) → k < n → ((j : ℕ) → j ≢ i + k → other j ≡ part j) → other (i + k) ≡ new →
      joined other i n ≡ take (m * k) (joined part i n) ++ (new ++ drop (m * k + m) (joined part i n))
  joined_changed other i zero k new h same is = absurd (omega arith)
  joined_changed other i (suc n) zero new h same is =
      let first : other i ≡ new = ap other {y = i + 0} (omega arith) ∙ is in
      let rest : joined other (i + 1) n ≡ joined part (i + 1) n = joined_like other part (i + 1) n (λ j l h. same j (λ e. omega arith)) in
      let none : m * 0 ≡ 0 = mul-zero m in
      (λ j. first j ++ rest j)
      ∙ sym (
      (λ j. take (none j) (joined part i (suc n)) ++ (new ++ drop (none j + m) (joined part i (suc n))))
      ∙ ap (λ d. new ++ drop d (joined part i (suc n))) (omega arith)
      ∙ ap (λ r. new ++ r) (drop_at (part i) (joined part (i + 1) n) m (sized i))
      )
  joined_changed other i (suc n) (suc k) new h same is =
      let r = joined part (i + 1) n in
      let s = sized i in
      let there : other (i + 1 + k) ≡ new = ap other {y = i + suc k} (omega arith) ∙ is in
      let more : joined other (i + 1) n ≡ take (m * k) r ++ (new ++ drop (m * k + m) r) =
      joined_changed other (i + 1) n k new (omega arith) (λ j l. same j (λ e. l (omega arith))) there in
      let first : other i ≡ part i = same i (λ e. omega arith) in
      let a : m * suc k ≡ length (part i) + m * k = omega (arith, mul-suc m k) in
      let b : m * suc k + m ≡ length (part i) + (m * k + m) = omega (arith, mul-suc m k) in
      (λ j. first j ++ more j)
      ∙ sym (append_assoc (part i) (take (m * k) r) (new ++ drop (m * k + m) r))
      ∙ sym (
      (λ j. take (a j) (joined part i (suc n)) ++ (new ++ drop (b j) (joined part i (suc n))))
      ∙ (λ j. take-append-add (part i) r (m * k) j ++ (new ++ drop-append-add (part i) r (m * k + m) j))
      )
