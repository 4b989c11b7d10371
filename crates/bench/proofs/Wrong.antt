-- The contracts of the program's functions rule out wrong versions.
use mathlib.Core.Path.{◌≡◌, sym, ap, ◌∙◌}
use mathlib.Core.Bool.{true, false, true≢false, false≢true}
use mathlib.Core.List.{List, [], ◌∷◌}
use mathlib.Core.Logic.{◌⊎◌, inl, inr}
use native.Mathlib.Omega.{arith}
use Prim.Native.Nat.{ℕ}
use base.Fml.{Lft}
use Rattle.std.specs.Borrow.{Bor, MutBor}
use Rattle.turns.specs.declared.Tally.{Tally}
use Rattle.std.proofs.Common.{Ok, Err}
use Rattle.bench.specs.declared.progress.Progress.{Progress}
use Rattle.bench.specs.declared.progress.Unmoved.TheVariants.{Again, Failed}
use Rattle.bench.specs.declared.system.System.{System}
use Rattle.bench.specs.Progress.{Heard, front, read_more}
use Rattle.replay.specs.declared.window.Verdict.TheVariants.{Agrees}
use Rattle.turns.specs.Run as run
use Rattle.bench.specs.Replays.{Going, heard_by, so_far}
use Rattle.bench.specs.Wrong.{beginning, RuledOut, RuledOutReads}
use Rattle.bench.proofs.Replayed.{heard_end, open_other}
use Rattle.bench.proofs.progress.hear.Reads as hear
use Rattle.bench.proofs.progress.after_read.Reads as after_read
use Rattle.bench.proofs.judging.read_more.Reads as read_input
use Rattle.bench.proofs.tally.counted.Reads as counted
use Rattle.bench.proofs.whole.after_read.Reads as read_whole
use Rattle.bench.proofs.whole.after_write.Reads as write-whole
use Rattle.bench.proofs.decimal.read.Reads as read-decimal
use Rattle.bench.proofs.task_of.Reads as task-of
use Rattle.bench.proofs.replays.entry_of.Reads as entry_of
use Rattle.bench.proofs.replays.after_read.Reads as read_Log

-- a list, lent from some place
abbrev lent : List ℕ → Bor (List ℕ)
lent x = record { ref_ptr = (0, 0); now = x }

-- and lent to be written
abbrev lent_mut : List ℕ → MutBor (List ℕ)
lent_mut x = record { ref_ptr = (0, 0); ghost_name = 0; now = x }

-- one byte of a log does not make it agree
one_byte : (heard_by (so_far beginning (0x63 ∷ [])) (run.Came (0x63 ∷ []))).so_far.verdict ≡ Agrees → ⊥
one_byte = go (heard_end (so_far beginning (0x63 ∷ [])) (run.Came (0x63 ∷ [])) open_other)
  where
    go : (false ≡ true) ⊎ ((heard_by (so_far beginning (0x63 ∷ [])) (run.Came (0x63 ∷ []))).so_far.verdict ≡ Agrees → ⊥)
        → (heard_by (so_far beginning (0x63 ∷ [])) (run.Came (0x63 ∷ []))).so_far.verdict ≡ Agrees → ⊥
    go (inl e) = absurd (false≢true e)
    go (inr other) = other

-- each by the contract as the kit reads it off the source
pub ruled_out : (one two : Lft) → RuledOut (λ answer r. hear.Learnt tt (answer, tt) r (answer, tt))
    (λ p heard r. after_read.Learnt tt (p, (heard, tt)) r (p, (heard, tt)))
    (λ tally verdict r. counted.Learnt tt (tally, (verdict, tt)) r (tally, (verdict, tt)))
    (λ filled heard r. read_whole.Learnt tt (filled, (heard, tt)) r (filled, (heard, tt)))
    (λ from heard r. write-whole.Learnt tt (from, (heard, tt)) r (from, (heard, tt)))
    (λ text r. read-decimal.Learnt (one, tt) (lent text, tt) r (lent text, tt))
    (λ words word set r. task-of.Learnt (one, (two, tt)) (words, (lent word, (lent set, tt))) r (words, (lent word, (lent set, tt))))
    (λ agreed verdict r. entry_of.Learnt tt (agreed, (verdict, tt)) r (agreed, (verdict, tt)))
    (λ state buffer heard r after. read_Log.Learnt (one, tt) (lent_mut buffer, (state, (heard, tt))) r (lent_mut after, (state, (heard, tt))))
ruled_out one two =
    record {
      signal = λ allowed. let z : ◌≡◌ {A = ℕ} 0 1 = cc allowed in omega arith;
      end = λ p allowed ended. true≢false (sym ended ∙ ap (λ (q : Progress). q.ended) allowed);
      failure = λ p allowed close. let z : ◌≡◌ {A = ℕ} 0 1 = cc (sym close ∙ ap (λ (q : Progress). q.stage) allowed) in omega arith;
      tag = λ t allowed one. let none : ◌≡◌ {A = ℕ} 1 0 = sym one ∙ ap (λ (t : Tally). t.equal) allowed in omega arith;
      column = λ t allowed none. let kept : ◌≡◌ {A = ℕ} 0 17 = sym none ∙ ap (λ (t : Tally). t.column) allowed in omega arith;
      input_failure = λ filled allowed. let z : ◌≡◌ {A = ℕ} 0 1 = cc allowed in omega arith;
      input_end = λ filled allowed. let z : ◌≡◌ {A = ℕ} 0 1 = cc allowed in omega arith;
      output_nothing = λ from allowed. let z : ◌≡◌ {A = ℕ} 0 1 = cc allowed in omega arith;
      decimal_empty = λ n allowed. let z : ◌≡◌ {A = ℕ} 0 1 = cc allowed in omega arith;
      decimal_sign = λ n allowed. let z : ◌≡◌ {A = ℕ} 0 1 = cc allowed in omega arith;
      decimal_large = λ n allowed. let z : ◌≡◌ {A = ℕ} 0 1 = cc allowed in omega arith;
      decimal_largest = λ allowed. let z : ◌≡◌ {A = ℕ} 0 1 = cc allowed in omega arith;
      decimal_zeros = λ allowed. let z : ◌≡◌ {A = ℕ} 0 1 = cc allowed in omega arith;
      decimal_order = λ allowed. let z : ◌≡◌ {A = ℕ} 21 12 = cc allowed in omega arith;
      task_set = λ allowed. let z : ◌≡◌ {A = ℕ} 2 1 = cc allowed in omega arith;
      task_way = λ allowed. let z : ◌≡◌ {A = ℕ} 0 1 = cc allowed in omega arith;
      task_alone = λ route allowed. let z : ◌≡◌ {A = ℕ} 0 1 = cc allowed in omega arith;
      task_large = λ route allowed. let z : ◌≡◌ {A = ℕ} 0 1 = cc allowed in omega arith;
      task_more = λ route allowed. let z : ◌≡◌ {A = ℕ} 0 1 = cc allowed in omega arith;
      task_other = λ route allowed. let z : ◌≡◌ {A = ℕ} 0 1 = cc allowed in omega arith;
      task_unknown = λ allowed. let z : ◌≡◌ {A = ℕ} 0 1 = cc allowed in omega arith;
      task_judge = λ allowed. let z : ◌≡◌ {A = ℕ} 0 1 = cc allowed in omega arith;
      task_replay = λ allowed. let z : ◌≡◌ {A = ℕ} 0 1 = cc allowed in omega arith;
      task_replay_judge = λ allowed. let z : ◌≡◌ {A = ℕ} 0 1 = cc allowed in omega arith;
      task_replay_more = λ allowed. let z : ◌≡◌ {A = ℕ} 0 1 = cc allowed in omega arith;
      entry_zero = λ allowed. let z : ◌≡◌ {A = ℕ} 0 1 = allowed in omega arith;
      entry_agreed = λ allowed. let z : ◌≡◌ {A = ℕ} 3 2 = allowed in omega arith;
      log_failure = λ r after allowed agrees. open_other (sym (ap (λ (g : Going). g.so_far.verdict) allowed.is) ∙ agrees);
      log_end = λ r after allowed agrees. one_byte (sym (ap (λ (g : Going). g.so_far.verdict) allowed.is) ∙ agrees);
    }

-- behind a read the window begins at the front, whatever was answered
begins : (p q : Progress) (heard : Heard) → q ≡ read_more (front p) heard → q.start ≡ 0
begins p q (Ok count) e = ap (λ (r : Progress). r.start) e
begins p q (Err Again) e = ap (λ (r : Progress). r.start) e
begins p q (Err Failed) e = ap (λ (r : Progress). r.start) e

-- by the contract of `read_more`, whatever streams are handed over
pub ruled_out_reads : (one two : Lft) (system later : MutBor System)
    → RuledOutReads (λ p before q after. read_input.Learnt (one, (two, tt)) (system, (lent_mut before, (p, tt))) q (later, (lent_mut after, (p, tt))))
ruled_out_reads one two system later =
    record { window_left = λ p before after h allowed. let first : p.start ≡ 0 = begins p p allowed.heard allowed.is in omega (arith, h, first) }
