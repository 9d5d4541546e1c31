-- What is computed over a whole table holds of each row.
use mathlib.Core.Path.{◌≡◌}
use mathlib.Core.List.Memᴰ
use mathlib.Core.List.{List, [], ◌∷◌, map}
use mathlib.Core.Logic.{⊎_elim}
use Rattle.script.specs.Lists.{◌∈◌}

pub in_map : {A B : Type 0} (f g : A → B) (l : List A) (x : A) → map f l ≡ map g l → x ∈ l → f x ≡ g x
in_map f g [] x e m = absurd (Memᴰ.not-nil m)
in_map f g (y ∷ l) x e m = ⊎_elim (λ (i : x ≡ y). cc) (λ (k : x ∈ l). in_map f g l x (cc e) k) (Memᴰ.cases_cons m)
