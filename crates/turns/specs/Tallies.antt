-- How many records were judged, and how, and what a run says of it at its end.
use Rattle.std.specs.Prelude.{cond, List, [], ◌∷◌, ◌++◌, ℕ, ◌+◌, eqb}
use Rattle.digits.specs.Ascii.{ascii}
use Rattle.digits.specs.Numbers.{numeral}
use Rattle.report.specs.declared.Verdict.{Verdict}
use Rattle.report.specs.declared.Verdict.TheVariants.{Equal, Rounds, Cipher, Tag, Unread}
use Rattle.turns.specs.declared.Tally.{Tally}

-- no record yet
abbrev pub none : Tally
none = record { equal = 0; differ = 0; unread = 0; line = 0; column = 0 }

-- one verdict more
abbrev pub counted_with : Tally → Verdict → Tally
counted_with t Equal = record { equal = t.equal + 1; differ = t.differ; unread = t.unread; line = t.line; column = t.column }
counted_with t Rounds = record { equal = t.equal; differ = t.differ + 1; unread = t.unread; line = t.line; column = t.column }
counted_with t Cipher = record { equal = t.equal; differ = t.differ + 1; unread = t.unread; line = t.line; column = t.column }
counted_with t Tag = record { equal = t.equal; differ = t.differ + 1; unread = t.unread; line = t.line; column = t.column }
counted_with t (Unread line column) = record { equal = t.equal; differ = t.differ; unread = t.unread + 1; line = line; column = column }

-- verdicts one after another
abbrev pub counted_all : Tally → List Verdict → Tally
counted_all t [] = t
counted_all t (verdict ∷ verdicts) = counted_all (counted_with t verdict) verdicts

-- how many records were judged
abbrev pub records_of : Tally → ℕ
records_of t = t.equal + t.differ + t.unread

-- the largest number of 64 bits; no record gets it
abbrev pub largest : ℕ
largest = 18_446_744_073_709_551_615

-- a text and a number behind it
unfoldable pub numbered : List ℕ → ℕ → List ℕ
numbered text number = text ++ numeral number

-- the line that ends a run
unfoldable pub end_line : Tally → List ℕ
end_line t =
    numbered (ascii "bench: ") (records_of t)
    ++ (numbered (ascii " records: ") t.equal
    ++ (numbered (ascii " equal, ") t.differ ++ (numbered (ascii " differ, ") t.unread ++ ascii " unread\n")))

-- where a record or an entry of a log broke, by this word for it: its number, line and column
unfoldable pub fault_line : List ℕ → ℕ → ℕ → ℕ → List ℕ
fault_line word number line column =
    numbered word number ++ (numbered (ascii ": line ") line ++ (numbered (ascii ", column ") column ++ ascii "\n"))

-- what a run says at its end: where the unread record broke, if there is one, which is the last; and the line that ends the run
unfoldable pub last_words : Tally → List ℕ
last_words t = cond (eqb t.unread 0) [] (fault_line (ascii "bench: record ") (records_of t) t.line t.column) ++ end_line t
