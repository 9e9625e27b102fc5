-- Writes that were asked for: all were done, or one was lost.
-- Assumes nothing.
use Rattle.std.proofs.Common.{◌≡◌, ℕ, ◌<◌, true, false, List, ◌∷◌, ◌++◌, length, replicate, Ok, Err, sym, ap, ◌∙◌, subst, arith, length-append}
use Rattle.fault.specs.Refusals.{offline}
use Rattle.fault.specs.declared.Fault.{Fault}
use Rattle.device.specs.Disk.{Disk, Event, write_done}
use Rattle.journal.specs.Writes.{Ran, Inside}
use Rattle.journal.specs.declared.Write.{Write}
use Rattle.journal.proofs.Writes.{ran_ok, ran_err}
use Rattle.session.specs.Steps.{Asked, all_done, one_lost}

pub asked_done :
    {ws : List Write} {d d' : Disk} {es : List Event} (n : ℕ) → length ws ≡ n → Ran ws d (Ok tt) es d' → Asked n d' es false
asked_done {d' = d'} n long run =
    subst (λ l. Asked n d' l false) (ap (λ m. replicate m write_done) (sym long) ∙ sym (ran_ok run).events) all_done

-- a lost write, the answer with it
pub record Missed (n : ℕ) (x : Fault) (es : List Event) (d' : Disk) : Type 0 where
  pub block : ℕ
  pub answer : x ≡ offline block
  pub asked : Asked n d' es true

before_all : (n : ℕ) (ws before behind : List Write) (w : Write) → length ws ≡ n → ws ≡ before ++ (w ∷ behind) → length before < n
before_all n ws before behind w long parts =
    let all : length (before ++ (w ∷ behind)) ≡ n = ap length (sym parts) ∙ long in
    let split = length-append before (w ∷ behind) in
    omega (arith, all, split)

pub asked_lost :
    {ws : List Write} {d d' : Disk} {x : Fault} {es : List Event} (n : ℕ) → length ws ≡ n → Inside ws d → d.online ≡ true →
    Ran ws d (Err x) es d' → Missed n x es d'
asked_lost {ws} {d' = d'} n long inside on run =
    let k = ran_err run inside on in
    record {
      block = k.write.block;
      answer = k.answer;
      asked = subst (λ l. Asked n d' l true) (sym k.events)
          (one_lost (length k.before) k.remains (before_all n ws k.before k.behind k.write long k.parts) (ap (λ x. x.online) k.disk));
    }
