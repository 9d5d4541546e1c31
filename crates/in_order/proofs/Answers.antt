-- What the answer to a part's question says where the code goes on only after a yes.
use mathlib.Core.Path.{◌≡◌}
use mathlib.Core.Bool.{Bool, true, false, not}
use borrow.Author.Tests.{not-true, not-false}
use Rattle.script.specs.Asking.{Decides, holds, fails}
use Rattle.script.proofs.Tests.{true_false, says_yes}

pub after_yes : {P : Type 0} {r : Bool} → Decides P r → not r ≡ false → P
after_yes {r = r} d e = says_yes d (not-false r e)

pub after_no : {P : Type 0} {r : Bool} → Decides P r → not r ≡ true → P → ⊥
after_no (holds p) e q = true_false (not-true true e)
after_no (fails n) e q = n q

pub refused : {P Q : Type 0} {r : Bool} → (Q → P) → Decides P r → not r ≡ true → Decides Q false
refused part d e = fails (λ q. after_no d e (part q))

-- Of two parts the second is asked only after a yes to the first.
pub both_asked : {P Q : Type 0} {p q v : Bool} → Decides P p → p ≡ true → Decides Q q → v ≡ q → Decides (P × Q) v
both_asked d e (holds q) z = rw z (holds (says_yes d e, q))
both_asked d e (fails n) z = rw z (fails (λ x. n x.1))

pub first_refused : {P Q : Type 0} {p v : Bool} → Decides P p → p ≡ false → v ≡ p → Decides (P × Q) v
first_refused (holds p) e z = absurd (true_false e)
first_refused (fails n) e z = rw z (fails (λ x. n x.0))

pub said_no : {P : Type 0} {r : Bool} → Decides P r → r ≡ false → P → ⊥
said_no (holds p) e q = true_false e
said_no (fails n) e q = n q
