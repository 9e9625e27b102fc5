-- Lemmas on reading the stock, one block after the other.
use Rattle.std.proofs.Common.{◌≡◌, ℕ, ◌+◌, ◌*◌, ◌<◌, ltb, List, length, take, None, Ok, Err, Result, sym, refl, ap, ◌∙◌, arith, length-append, length-drop, length-take}
use Rattle.std.proofs.lemmas.Bool.{cond-true, lt-ltb}
use Rattle.fault.specs.declared.Fault.{Fault}
use Rattle.octets.specs.Edits.{written}
use Rattle.layout.specs.Edits.{with_part}
use Rattle.layout.specs.Layout.{joined}
use Rattle.layout.specs.Reading.{unless_fault, first_of, block_fault, bytes_of, stock_in}
use Rattle.layout.proofs.Blocks.{parts_more, parts_all}
use Rattle.reader.proofs.Rests.{no_fault, a_fault, Rest, rest_none, rest_more, rest_stops, rest_all}
use Rattle.device.specs.Disk.{Entry}

-- the first j blocks of the stock were read
pub record StockSoFar (view : ℕ → Entry) (j : ℕ) (bytes : List ℕ) : Type 0 where
  pub long : length bytes ≡ 4096
  pub rest : Rest (block_fault view) 6 8 j
  pub parts : take (512 * j) bytes ≡ joined (λ b. bytes_of (view b)) 6 j

length_part : (xs new : List ℕ) (j : ℕ) → j < 8 → length xs ≡ 4096 → length new ≡ 512 → length (with_part xs j new) ≡ 4096
unfolding with_part
length_part xs new j h long size =
    ap length (cond-true (ltb j 8) (written xs (512 * j) new) xs (lt-ltb j 8 h))
    ∙ simp (length-append, length-take, length-drop) (omega arith)

module _ (view : ℕ → Entry) where
  pub stock_none : (bytes : List ℕ) → length bytes ≡ 4096 → StockSoFar view 0 bytes
  stock_none bytes long = record { long = long; rest = rest_none (block_fault view) 6 8; parts = refl }

  pub stock_more :
      (j at : ℕ) (bytes new bytes' : List ℕ) → j < 8 → at ≡ 6 + j → length new ≡ 512 → StockSoFar view j bytes →
      Ok new ≡ unless_fault (block_fault view at) (bytes_of (view at)) → bytes' ≡ with_part bytes j new →
      StockSoFar view (j + 1) bytes'
  stock_more j at bytes new bytes' h e size so is put = record {
    long = ap length put ∙ length_part bytes new j h so.long size;
    rest = rest_more (block_fault view) 6 8 j h so.rest (sym (ap (block_fault view) e) ∙ ok.0);
    parts =
        ap (take (512 * (j + 1))) put
        ∙ parts_more (λ b. bytes_of (view b)) 6 j bytes new so.long size h (ok.1 ∙ ap (λ b. bytes_of (view b)) e) so.parts;
  }
    where
      ok : (block_fault view at ≡ None) × (new ≡ bytes_of (view at))
      ok = no_fault _ _ _ is

  pub stock_stops :
      (j at : ℕ) (bytes : List ℕ) (x : Fault) → j < 8 → at ≡ 6 + j → StockSoFar view j bytes →
      Err x ≡ unless_fault (block_fault view at) (bytes_of (view at)) →
      ◌≡◌ {A = Result (List ℕ) Fault} (Err x) (unless_fault (first_of (block_fault view) 6 8) (stock_in view))
  stock_stops j at bytes x h e so is =
      sym
      (ap (λ f. unless_fault f (stock_in view))
      (rest_stops (block_fault view) 6 8 j x h so.rest (sym (ap (block_fault view) e) ∙ a_fault _ _ x is)))

  pub stock_all :
      (j : ℕ) (bytes : List ℕ) → j ≡ 8 → StockSoFar view j bytes →
      ◌≡◌ {A = Result (List ℕ) Fault} (Ok bytes) (unless_fault (first_of (block_fault view) 6 8) (stock_in view))
  unfolding stock_in
  stock_all j bytes e so =
      ap Ok (parts_all (λ b. bytes_of (view b)) 6 bytes so.long (sym (ap (λ n. take (512 * n) bytes) e) ∙ so.parts ∙ ap (joined (λ b. bytes_of (view b)) 6) e))
      ∙ sym (ap (λ f. unless_fault f (joined (λ b. bytes_of (view b)) 6 8)) (rest_all (block_fault view) 6 8 j e so.rest))
