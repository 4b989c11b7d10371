-- The contracts rule out the wrong answers of the calls that read and replay a chip's log: each is computed in the checker, or follows from a law.
use mathlib.Core.Path.{◌≡◌, sym, ap, ◌∙◌}
use mathlib.Core.List.{List}
use Prim.Native.Nat.{ℕ}
use native.Mathlib.Omega.{arith}
use Rattle.answers.specs.declared.Answer.TheVariants.{Done, BrokenRecord}
use Rattle.permutation.specs.Round.{◌⋙◌, add_constant, s_box, bit, from_bits, column, substituted, substitute, Σ₀, Σ₁, Σ₂, Σ₃, Σ₄, diffuse, round}
use Rattle.permutation.specs.Runs.{constants, constants_of, rounds_of, rounds, permute}
use Rattle.permutation.specs.Strings.{bytes_of, value_of, string_of, state_of}
use Rattle.ascon.specs.Sets.{table, is_set, row_of}
use Rattle.ascon.specs.Mode.{p, before_key, initialise, separate, finalise}
use Rattle.digits.specs.Hex.{digit_in}
use Rattle.lines.specs.Right.{named}
use Rattle.lines.specs.Steps as steps
use Rattle.lines.specs.Steps.{name_step, feed_step, value_step, read_of}
use Rattle.record.specs.Form.{field_of}
use Rattle.chip_log.specs.Form.{kind_at, call_kind, blank}
use Rattle.chip_log.specs.Calls.{Reading, read_call, read_line, field_in, given, refused_at, read_as, read_entry}
use Rattle.chip_log.specs.Laws.{WrongEntry}
use Rattle.chip_log.proofs.Laws.{reads_log}
use Rattle.sponge.specs.Sponge as sponge
use Rattle.sponge.specs.Sponge.{absorbed, ad_closed, tag_of}
use Rattle.stream.specs.declared.Phase.TheVariants as phase
use Rattle.stream.specs.State.{is_sound_open, is_sound_ended, is_sound}
use Rattle.stream.specs.Calls.{limited_start_test, piece_test, text_test, finish_test, filled_rounds, closing_rounds, start_call, ad_call, text_words, took_text, text_call, finish_call}
use Rattle.replay.specs.declared.cursor.Log.{Log}
use Rattle.replay.specs.declared.whole.Conclusion.{Conclusion}
use Rattle.replay.specs.declared.window.Stretch.{Stretch}
use Rattle.replay.specs.declared.window.Verdict.TheVariants.{Agrees, Answer, Out, Rounds, Unread, Open}
use Rattle.replay.specs.Feeding.{started, sealed_piece, finished}
use Rattle.replay.specs.Replays.{compared, step_on, stretch_of, replay_of, step_by}
use Rattle.replay.proofs.Laws.{replays}
use Rattle.letter.specs.Replays.{line_of}
use Rattle.letter.specs.Wrong.Replays.{Wrong}
use Rattle.letter.proofs.Calls.{off, seen_as}

-- a text that is refused is wrong at a line and column
place : (text : List ℕ) (r : Reading) → r.answer ≡ BrokenRecord → r ≡ read_entry text → WrongEntry text r.line r.column
place text r refused p =
    (reads_log.refused text r.line r.column).0
    (sym (ap (λ (q : Reading). q.answer) p) ∙ refused, sym (ap (λ (q : Reading). q.line) p), sym (ap (λ (q : Reading). q.column) p))

pub wrong : Wrong
unfolding read_entry refused_at read_as read_call read_line field_in given kind_at call_kind blank read_of steps.step_of name_step feed_step value_step named field_of digit_in replay_of stretch_of step_by step_on compared started sealed_piece finished limited_start_test start_call ad_call text_call took_text finish_call text_words piece_test text_test finish_test filled_rounds closing_rounds is_sound is_sound_open is_sound_ended absorbed sponge.given ad_closed tag_of row_of table is_set rounds_of constants_of constants finalise separate initialise before_key p permute rounds round diffuse Σ₀ Σ₁ Σ₂ Σ₃ Σ₄ ◌⋙◌ substitute substituted column from_bits bit s_box add_constant string_of state_of bytes_of value_of
wrong = record {
  log_call = λ r other κ e q. let p = seen_as (λ x. x) q in other p;
  log_finish = λ r other κ e q. let p = seen_as (λ x. x) q in other p;
  log_start2 = λ r other κ e q. let p = seen_as (λ x. x) q in other p;
  log_start1 = λ r other κ e q. let p = seen_as (λ x. x) q in other p;
  log_most = λ line column early κ e q. let p = seen_as (λ x. x) q in let answer : BrokenRecord ≡ Done = ap (λ (x : Reading). x.answer) p in off (cc answer);
  log_long = λ r other κ e q. let p = seen_as (λ x. x) q in other p;
  log_upper = λ r other κ e q. let p = seen_as (λ x. x) q in other p;
  log_zeros = λ r other κ e q. let p = seen_as (λ x. x) q in other p;
  log_digits = λ r other κ e q. let p = seen_as (λ x. x) q in other p;
  log_order = λ r other κ e q. let p = seen_as (λ x. x) q in other p;
  log_cut = λ r other κ e q. let p = seen_as (λ x. x) q in other p;
  log_behind = λ r other κ e q. let p = seen_as (λ x. x) q in other (ap (λ (x : Reading). x.taken) p);
  log_line_nought = λ text r refused none κ e q. let p = seen_as (λ x. x) q in absurd (omega (arith, (place text r refused p).first));
  log_column_nought = λ text r refused none κ e q. let p = seen_as (λ x. x) q in absurd (omega (arith, (place text r refused p).wrong.first));
  open_place = λ bytes r other κ e p. other (ap (λ (x : Log). x.place) p);
  open_bytes = λ bytes r other κ e p. other (ap (λ (x : Log). x.bytes) p);
  moved_place = λ log place r other κ e p. other (ap (λ (x : Log). x.place) p);
  moved_bytes = λ log place r other κ e p. other (ap (λ (x : Log). x.bytes) p);
  entry_first = λ line column early κ e q. let p = seen_as (λ x. x) q in let answer : BrokenRecord ≡ Done = ap (λ (x : Reading). x.answer) p in off (cc answer);
  entry_past = λ r done κ e q. let p = seen_as (λ x. x) q in let answer : Done ≡ BrokenRecord = sym done ∙ ap (λ (x : Reading). x.answer) p in off (cc answer);
  replay_broken = λ entries κ e p. let verdict : Agrees ≡ Unread 1 1 = ap (λ (x : Conclusion). x.verdict) p in off (cc verdict);
  replay_cut = λ entries κ e p. let verdict : Agrees ≡ Unread 2 1 = ap (λ (x : Conclusion). x.verdict) p in off (cc verdict);
  replay_cut_feed = λ entries κ e p. let verdict : Agrees ≡ Unread 5 9 = ap (λ (x : Conclusion). x.verdict) p in off (cc verdict);
  replay_last = λ verdict κ e p. let entry : ◌≡◌ {A = ℕ} 2 1 = ap (λ (x : Conclusion). x.entry) p in absurd (omega arith);
  replay_broken_last = λ entry line column κ e p. let verdict : Unread line column ≡ Answer = ap (λ (x : Conclusion). x.verdict) p in off (cc verdict);
  replay_rounds_first = λ entry κ e p. let verdict : Rounds ≡ Out = ap (λ (x : Conclusion). x.verdict) p in off (cc verdict);
  replay_out_first = λ entry κ e p. let verdict : Out ≡ Answer = ap (λ (x : Conclusion). x.verdict) p in off (cc verdict);
  replay_out = λ r other κ e p. other p;
  replay_out_begun = λ entries κ e p. let verdict : Agrees ≡ Out = ap (λ (x : Conclusion). x.verdict) p in off (cc verdict);
  replay_out_longer = λ entries κ e p. let verdict : Agrees ≡ Out = ap (λ (x : Conclusion). x.verdict) p in off (cc verdict);
  replay_out_text = λ entries κ e p. let verdict : Agrees ≡ Out = ap (λ (x : Conclusion). x.verdict) p in off (cc verdict);
  replay_refused = λ r other κ e p. other p;
  replay_refused_open = λ r other κ e p. other p;
  replay_start = λ r other κ e p. other p;
  replay_closing = λ r other κ e p. other p;
  replay_nought = λ log verdict other κ e p. absurd (omega (arith, ((replays.first log 0 verdict other).0 (sym p)).number));
  replay_count = λ entries other κ e p. other (ap (λ (x : Conclusion). x.entry) p);
  replay_finish = λ r other κ e p. other p;
  replay_tag = λ r other κ e p. other p;
  replay_key = λ r other κ e p. other p;
  replay_key_behind = λ entries κ e p. let verdict : Agrees ≡ Out = ap (λ (x : Conclusion). x.verdict) p in off (cc verdict);
  replay_empty = λ entry line column κ e p. let verdict : Unread line column ≡ Agrees = ap (λ (x : Conclusion). x.verdict) p in off (cc verdict);
  replay_number = λ entry line column κ e p. let verdict : Unread line column ≡ Answer = ap (λ (x : Conclusion). x.verdict) p in off (cc verdict);
  replay_start2 = λ entry verdict other κ e p. other (ap (λ (x : Conclusion). line_of x.verdict) p);
  replay_finish_data = λ entry verdict other κ e p. other (ap (λ (x : Conclusion). line_of x.verdict) p);
  replay_rounds = λ entries κ e p. let verdict : Agrees ≡ Rounds = ap (λ (x : Conclusion). x.verdict) p in off (cc verdict);
  replay_open = λ log entry κ e p. replays.decided log (sym (ap (λ (x : Conclusion). x.verdict) p));
  window_agrees = λ window s r agreed κ e p. replays.at_end s window (sym (ap (λ (x : Stretch). x.verdict) p) ∙ agreed);
  window_early = λ r line column broken κ e p. let verdict : Unread line column ≡ Open = sym broken ∙ ap (λ (x : Stretch). x.verdict) p in off (cc verdict);
  window_at_once = λ r waits κ e p. let verdict : Open ≡ Unread 1 1 = sym waits ∙ ap (λ (x : Stretch). x.verdict) p in off (cc verdict);
  window_taken = λ r other κ e p. other (ap (λ (x : Stretch). x.taken) p);
  window_state = λ r begun κ e p. let now : phase.Ad ≡ phase.Ended = sym begun ∙ ap (λ (x : Stretch). x.stream.phase) p in off (cc now);
  window_limit = λ r other κ e p. other (ap (λ (x : Stretch). x.stream.limit) p);
  window_from = λ r differs κ e p. let verdict : Answer ≡ Agrees = sym differs ∙ ap (λ (x : Stretch). x.verdict) p in off (cc verdict);
}
