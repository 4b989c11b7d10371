-- Records of a set with right round counts, written as entries and read back.
use mathlib.Core.Path.{◌≡◌, refl, sym, ap, ◌∙◌}
use mathlib.Core.List.{List, [], ◌∷◌}
use Prim.Native.Nat.{ℕ}
use native.Mathlib.Omega.{arith}
use lib.ListN.{length}
use Rattle.record.specs.declared.form.Record.{Record}
use Rattle.moving.specs.declared.route.Route.TheVariants.{Import, Export}
use Rattle.moving.specs.Moves.{Whole, whole, text_in, summary, moved_all}
use Rattle.moving.specs.Laws.{AllMovable, sources_of, AllPortable, Published}
use Rattle.moving.proofs.AllRecords.{in_a_row}

-- they can be written
all_written : (set : ℕ) (records : List Record) → AllPortable set records → AllMovable Export records
all_written set [] l = tt
all_written set (r ∷ records) (l, rest) = ((l.spellable, l.spellable.kept), all_written set records rest)

-- and read
all_read : (set : ℕ) (records : List Record) → AllPortable set records → AllMovable (Import set) records
all_read set [] l = tt
all_read set (r ∷ records) (l, rest) = ((l, l.spellable.kept), all_read set records rest)

pub published : (set : ℕ) → Published set
published set =
    record {
      there_and_back = λ known records count there h k l e.
          let is = in_a_row Export refl records h (all_written set records l) in
          let same : there ≡ sources_of (Import set) records = ap text_in (sym e ∙ is) in
          let number : count ≡ length records = ap (λ (w : Whole). (summary w).records) (sym e ∙ is) in
          ap (moved_all (Import set)) same
          ∙ in_a_row (Import set) known records (omega (arith, ap length same)) (all_read set records l)
          ∙ ap (λ (n : ℕ). whole n (sources_of Export records)) (sym number);
      written = λ records h l. in_a_row Export refl records h (all_written set records l);
      read_back = λ known records h l. in_a_row (Import set) known records h (all_read set records l);
    }
