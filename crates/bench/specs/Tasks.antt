-- What the program is asked to do, by its words.
use Rattle.std.specs.Prelude.{Option, Some, None, cond, List, ℕ, eqb, leb}
use Rattle.digits.specs.Ascii.{ascii}
use Rattle.permutation.specs.Strings.{same}
use Rattle.moving.specs.declared.route.Route.TheVariants.{Forward, Back, Import, Export}
use Rattle.bench.specs.Decimal.{decimal_of}
use Rattle.bench.specs.declared.Task.{Task}
use Rattle.bench.specs.declared.Task.TheVariants.{Judge, Move, Replay}

-- one word
abbrev pub word_task : List ℕ → Option Task
word_task word =
    cond (same word (ascii "forward")) (Some (Move Forward))
    (cond (same word (ascii "back")) (Some (Move Back)) (cond (same word (ascii "export")) (Some (Move Export)) (cond (same word (ascii "replay")) (Some Replay) None)))

-- the moving of a published test file of a set, if a decimal names one
abbrev pub import_of : Option ℕ → Option Task
import_of (Some set) = Some (Move (Import set))
import_of None = None

-- a word, and a set behind it
abbrev pub set_task : List ℕ → List ℕ → Option Task
set_task word set = cond (same word (ascii "import")) (import_of (decimal_of set)) None

-- so many words, the program's own name among them, and the two behind it
abbrev pub task_of : ℕ → List ℕ → List ℕ → Option Task
task_of words word set = cond (leb words 1) (Some Judge) (cond (eqb words 2) (word_task word) (cond (eqb words 3) (set_task word set) None))
