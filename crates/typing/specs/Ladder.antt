-- "63 joins, each naming its predecessor twice": a script whose method look-up goes through them all. The subtype question that walks them all is asked of the
-- engine by samples/refuse-14-joins.words; the starred samples are the table of the crate `calls`.
use Rattle.std.specs.Prelude.{ℕ, zero, suc, List, [], ◌∷◌, ◌++◌}
use Rattle.words.specs.Word.{bytes}

-- n joins, the first naming interface t twice and each of the others its predecessor.
unfoldable pub joins_on : ℕ → ℕ → List ℕ
joins_on zero t = []
joins_on (suc n) t = 1 ∷ t ∷ t ∷ joins_on n (suc t)

-- A method that the one list has not is looked up through all of them: interface 1 lists method 0, 64 is the last join, class 65 has method 0; the start is
-- let x = (64)new 65 in x.1(null).
unfoldable pub ladder : List ℕ
ladder =
    bytes
    (24 ∷ 64 ∷ 408 ∷ 1 ∷ 414 ∷ 1 ∷ 420 ∷ 0 ∷ 420 ∷ 1 ∷ 428 ∷ 6 ∷ 0 ∷ 1 ∷ 0 ∷ []
    ++ (joins_on 63 1
    ++ (0 ∷ 0 ∷ 0 ∷ 64 ∷ 0 ∷ 1 ∷ 0 ∷ 0 ∷ 0 ∷ 5 ∷ 5 ∷ 2 ∷ 1 ∷ 3 ∷ 7 ∷ 64 ∷ 2 ∷ 0 ∷ 6 ∷ 65 ∷ 0 ∷ 0 ∷ 4 ∷ 2 ∷ 1 ∷ 4 ∷ 0 ∷ 0 ∷ 0 ∷ 0 ∷ 0 ∷ 0 ∷ 0 ∷ 0 ∷ [])))
