-- A log agrees exactly where it is ours, and an entry is named exactly where it is the first that is wrong.
use mathlib.Core.Path.{◌≡◌, refl, sym, ap, ap₂, subst, subst₂, ◌∙◌}
use mathlib.Core.Bool.{true, false, true≢false, false≢true}
use mathlib.Core.List.{List, [], ◌∷◌, ◌++◌, append-nil, append_assoc}
use mathlib.Core.Logic.{◌↔◌, ◌⊎◌, inl, inr}
use Prim.Native.Nat.{ℕ, suc, ◌+◌, ◌≤◌}
use native.Mathlib.Nat.{zero-add}
use native.Mathlib.Omega.{arith}
use lib.ListN.{length, drop, length-append, take-append-drop}
use lib.Seq.{drop-drop, drop-append_seam, drop-append-le}
use lib.Pow.{are_bytes}
use Rattle.answers.specs.declared.Answer.TheVariants.{Done, BrokenRecord}
use Rattle.answers.specs.Numbers.{is_done}
use Rattle.digits.proofs.Spelling.{and_both}
use Rattle.chip_log.specs.declared.form.Entry.{Entry}
use Rattle.chip_log.specs.Calls.{Reading}
use Rattle.chip_log.specs.Form.{data_kind, entry_text}
use Rattle.chip_log.specs.Calls.{read_as, refused_at, read_entry}
use Rattle.chip_log.specs.Laws.{InForm, BegunEntry, WrongEntry}
use Rattle.chip_log.proofs.Table.{data_field}
use Rattle.chip_log.proofs.Laws.{reads_log}
use Rattle.record.specs.Form.{field_of, held, is_field, allows}
use Rattle.record.proofs.Fields.{bytes_take, held_field, field_held}
use Rattle.sponge.proofs.Ends.{Sixteen}
use Rattle.stream.specs.declared.Stream.{Stream}
use Rattle.stream.specs.State.{ended}
use Rattle.replay.specs.declared.whole.Conclusion.{Conclusion}
use Rattle.replay.specs.declared.window.Stretch.{Stretch}
use Rattle.replay.specs.declared.window.Verdict.{Verdict}
use Rattle.replay.specs.declared.window.Verdict.TheVariants.{Agrees, Answer, Out, Rounds, Unread, Open}
use Rattle.replay.specs.Feeding.{Gives, fed}
use Rattle.replay.specs.Replays.{Step, compared, step_on, step_of, is_agreed, stopped, further, stretch_of, told, replay_of, step_by}
use Rattle.replay.specs.Laws.{Asked, answer_to, entry_of, log_from, after, AllAllowed, Ours, Compares, IsWrong, FirstWrong, is_difference}
use Rattle.replay.proofs.Compared.{Says, compared_says, says_compared}
use Rattle.replay.proofs.Gives.{ended_key, entry_fits}
use Rattle.replay.proofs.Stretches.{by_reading, step_read, agreed_read, read_inside, by_entries, stretch_step, step_inside, step_same}

-- ---- what a replay tells

-- what is left behind the entries that agreed: nothing, or what is wrong as the verdict says
abbrev Ends : Verdict → Stream → List ℕ → Type 0
Ends Agrees s rest = rest ≡ []
Ends Answer s rest = IsWrong Answer s rest
Ends Out s rest = IsWrong Out s rest
Ends Rounds s rest = IsWrong Rounds s rest
Ends (Unread line column) s rest = IsWrong (Unread line column) s rest
Ends Open s rest = ⊥

-- a stretch of a log is that of some calls from a state, so many, and then it ends so
record Parts (s : Stream) (text : List ℕ) (r : Stretch) : Type 0 where
  calls : List Asked
  allowed : AllAllowed calls
  parts : text ≡ log_from s calls ++ drop r.taken text
  count : r.entries ≡ length calls
  behind : r.stream ≡ after s calls
  ends : Ends r.verdict r.stream (drop r.taken text)

-- a text that is read begins with the entry that is read
begins : (text : List ℕ) → (read_entry text).answer ≡ Done → text ≡ entry_text (read_entry text).content ++ drop (read_entry text).taken text
begins text d =
    sym (take-append-drop (read_entry text).taken text) ∙ ap (λ (own : List ℕ). own ++ drop (read_entry text).taken text) (reads_log.spelled text d)

-- so it does begin with one in form
begun_entry : (text : List ℕ) → (read_entry text).answer ≡ Done → BegunEntry text
begun_entry text d =
    record { content = (read_entry text).content; in_form = reads_log.in_form text d; rest = drop (read_entry text).taken text; parts = begins text d }

-- a text that is not read is refused
broken : (text : List ℕ) → is_done (read_entry text).answer ≡ false → (read_entry text).answer ≡ BrokenRecord
unfolding read_as refused_at
broken text e = go (reads_log.answered text)
  where
    go : (read_entry text ≡ read_as (read_entry text).taken (read_entry text).content)
        ⊎ (read_entry text ≡ refused_at (read_entry text).line (read_entry text).column (read_entry text).early)
        → (read_entry text).answer ≡ BrokenRecord
    go (inl read) = absurd (false≢true (sym e ∙ ap (λ (r : Reading). is_done r.answer) read))
    go (inr refused) = ap (λ (r : Reading). r.answer) refused

-- an entry that does not agree is wrong as its verdict says
step_ends : (s : Stream) (text : List ℕ) → 1 ≤ length text → is_agreed (step_of true s text).verdict ≡ false → Ends (step_of true s text).verdict s text
unfolding step_on begun_entry
step_ends s text some =
    by_reading true s text (λ step. is_agreed step.verdict ≡ false → Ends step.verdict s text)
    (λ d stop. read d (compared g e) (compared_says g e) stop)
    (λ f stop. (some, (reads_log.refused text (read_entry text).line (read_entry text).column).0 (broken text f, refl, refl)))
  where
    e : Entry
    e = (read_entry text).content

    g : Gives
    g = fed s e.call (held e.input)

    read : (read_entry text).answer ≡ Done → (verdict : Verdict) → Says verdict g e → is_agreed verdict ≡ false → Ends verdict s text
    read d Agrees says stop = absurd (true≢false stop)
    read d Answer says stop = record { begun = begun_entry text d; so = says }
    read d Out says stop = record { begun = begun_entry text d; so = says }
    read d Rounds says stop = record { begun = begun_entry text d; so = says }
    read d (Unread line column) says stop = absurd says
    read d Open says stop = absurd says

-- the call of an entry, with what it was handed
abbrev asked_by : Entry → Asked
asked_by e = record { call = e.call; input = held e.input }

-- an entry in form that compares as agreeing is the one that our stream would write
own_entry : (s : Stream) (e : Entry) → InForm e → Says Agrees (answer_to s (asked_by e)) e → entry_of s (asked_by e) ≡ e
unfolding entry_of
own_entry s e f (answer, out, rounds) =
    let input : field_of (held e.input) ≡ e.input = field_held e.input (data_field e.call e.input f.input) f.input_bytes in
    let given : field_of (answer_to s (asked_by e)).out ≡ e.out =
    ap field_of (sym out) ∙ field_held e.out (and_both (is_field e.out) _ f.out).0 f.out_bytes in
    λ j. record { call = e.call; input = input j; answer = sym answer j; out = given j; rounds = sym rounds j }

-- it may be handed its data
own_allowed : (e : Entry) → InForm e → let x = held e.input in (are_bytes x ≡ true) × (allows (data_kind e.call) 0 (field_of x) ≡ true)
own_allowed e f = (
  bytes_take e.input.size e.input.bytes f.input_bytes.bytes,
  rw (field_held e.input (data_field e.call e.input f.input) f.input_bytes) f.input,
)

-- an entry that agrees before a stretch
agreed_parts : (s : Stream) (text : List ℕ) (r : Stretch) → (read_entry text).answer ≡ Done → let step = step_on s (read_entry text).content (read_entry text).taken in
    is_agreed step.verdict ≡ true → Parts step.next (drop step.taken text) r → Parts s text (further step.taken r)
unfolding step_on
agreed_parts s text r d agreed later =
    record {
      calls = a ∷ later.calls;
      allowed = (own.0, own.1, later.allowed);
      parts = parts;
      count = ap suc later.count;
      behind = later.behind;
      ends = subst (λ (rest : List ℕ). Ends r.verdict r.stream rest) (drop-drop r.taken n text) later.ends;
    }
  where
    e : Entry
    e = (read_entry text).content

    n : ℕ
    n = (read_entry text).taken

    f : InForm e
    f = reads_log.in_form text d

    a : Asked
    a = asked_by e

    own : (are_bytes (held e.input) ≡ true) × (allows (data_kind e.call) 0 (field_of (held e.input)) ≡ true)
    own = own_allowed e f

    agrees : (verdict : Verdict) → is_agreed verdict ≡ true → Says verdict (answer_to s a) e → Says Agrees (answer_to s a) e
    agrees Agrees h says = says
    agrees Answer h says = absurd (false≢true h)
    agrees Out h says = absurd (false≢true h)
    agrees Rounds h says = absurd (false≢true h)
    agrees (Unread line column) h says = absurd (false≢true h)
    agrees Open h says = absurd (false≢true h)

    same : entry_of s a ≡ e
    same = own_entry s e f (agrees (compared (answer_to s a) e) agreed (compared_says (answer_to s a) e))

    rest : List ℕ
    rest = log_from (answer_to s a).next later.calls

    parts : text ≡ entry_text (entry_of s a) ++ rest ++ drop (n + r.taken) text
    parts =
        begins text d
        ∙ ap₂ (λ (own left : List ℕ). own ++ left) (ap entry_text (sym same)) (later.parts ∙ ap (λ (left : List ℕ). rest ++ left) (drop-drop r.taken n text))
        ∙ sym (append_assoc (entry_text (entry_of s a)) rest (drop (n + r.taken) text))

-- each stretch of a log has these parts
stretch_parts : (s : Stream) (text : List ℕ) → Parts s text (stretch_of true s text)
stretch_parts =
    by_entries true Parts (λ s. record { calls = []; allowed = tt; parts = refl; count = refl; behind = refl; ends = refl })
    (λ s text some stop. record { calls = []; allowed = tt; parts = refl; count = refl; behind = refl; ends = step_ends s text some stop })
    goes
  where
    goes : (s : Stream) (text : List ℕ) (r : Stretch) → let step = step_of true s text in is_agreed step.verdict ≡ true
        → Parts step.next (drop step.taken text) r → Parts s text (further step.taken r)
    goes s text r agreed =
        let d = agreed_read true s text agreed in
        subst (λ (step : Step). is_agreed step.verdict ≡ true → Parts step.next (drop step.taken text) r → Parts s text (further step.taken r))
        (sym (step_read true s text d)) (agreed_parts s text r d) agreed

-- ---- what a log is told

-- a text that begins with an entry in form has some byte, and its step is that of the entry
entry_step : (s : Stream) (e : Entry) (rest : List ℕ) → InForm e → let text = entry_text e ++ rest in
    (1 ≤ length text) × (step_of true s text ≡ step_on s e (length (entry_text e)))
unfolding step_by read_as
entry_step s e rest f =
    let reading = reads_log.text_read e rest f in
    let inside = read_inside (entry_text e ++ rest) (ap (λ (r : Reading). r.answer) reading) in
    (omega arith, rw reading)

-- our stream's own entry agrees
own_step : (s : Stream) (a : Asked) (n : ℕ) → step_on s (entry_of s a) n ≡ record { verdict = Agrees; taken = n; next = (answer_to s a).next }
unfolding step_on entry_of
own_step s a n =
    let g : Gives = answer_to s a in
    let agrees = says_compared Agrees g (entry_of s a) (refl, held_field g.out, refl) in
    rw (held_field a.input) (ap (λ (verdict : Verdict). record { verdict = verdict; taken = n; next = g.next }) agrees)

-- so it is counted, and the replay goes on behind it
row_step : (s : Stream) (a : Asked) (more : List ℕ) → InForm (entry_of s a) → let own = entry_text (entry_of s a) in
    stretch_of true s (own ++ more) ≡ further (length own) (stretch_of true (answer_to s a).next more)
row_step s a more f =
    let own : List ℕ = entry_text (entry_of s a) in
    let step = entry_step s (entry_of s a) more f in
    stretch_step true s (own ++ more) step.0
    ∙ rw (step.1, own_step s a (length own), drop-append_seam own more)

-- the log of some calls and more behind it: as many entries as calls and those of what stands behind them, whose verdict is told
in_a_row : (calls : List Asked) (s : Stream) (rest : List ℕ) → Sixteen s.key → AllAllowed calls
    → let r = stretch_of true s (log_from s calls ++ rest) in let q = stretch_of true (after s calls) rest in
    (r.entries ≡ length calls + q.entries) × (r.verdict ≡ q.verdict)
in_a_row [] s rest key allowed = (sym (zero-add _), refl)
in_a_row (a ∷ calls) s rest key (bytes, allows, allowed) =
    let fits = entry_fits s a key bytes allows in
    let own : List ℕ = entry_text (entry_of s a) in
    let next : Stream = (answer_to s a).next in
    let more : List ℕ = log_from next calls ++ rest in
    let later = in_a_row calls next rest fits.1 allowed in
    let whole : stretch_of true s (own ++ log_from next calls ++ rest) ≡ further (length own) (stretch_of true next more) =
    ap (stretch_of true s) (append_assoc own (log_from next calls) rest) ∙ row_step s a more fits.0 in
    (ap (λ (r : Stretch). r.entries) whole ∙ omega (arith, later.0), ap (λ (r : Stretch). r.verdict) whole ∙ later.1)

-- a text whose first entry does not agree stops there
stops_at : (s : Stream) (text : List ℕ) (verdict : Verdict) → 1 ≤ length text → is_agreed verdict ≡ false → (step_of true s text).verdict ≡ verdict
    → stretch_of true s text ≡ stopped s verdict
stops_at s text verdict some stop e = stretch_step true s text some ∙ rw (e, stop)

-- so does one that begins with an entry in form on which the verdict is another
compares_stops : (verdict : Verdict) (s : Stream) (text : List ℕ) → is_agreed verdict ≡ false → Compares (Says verdict) s text
    → stretch_of true s text ≡ stopped s verdict
unfolding step_on
compares_stops verdict s text stop w =
    let e : Entry = w.begun.content in
    let step = entry_step s e w.begun.rest w.begun.in_form in
    let says = says_compared verdict (fed s e.call (held e.input)) e w.so in
    rw w.begun.parts (stops_at s (entry_text e ++ w.begun.rest) verdict step.0 stop (ap (λ (x : Step). x.verdict) step.1 ∙ says))

-- and one that is wrong at a line and column
unread_stops : (line column : ℕ) (s : Stream) (text : List ℕ) → 1 ≤ length text → WrongEntry text line column
    → stretch_of true s text ≡ stopped s (Unread line column)
unfolding step_by
unread_stops line column s text some w =
    let refused = (reads_log.refused text line column).1 w in
    stops_at s text (Unread line column) some refl (rw (refused.0, refused.1, refused.2))

-- so does any that is wrong
wrong_stops : (verdict : Verdict) (s : Stream) (text : List ℕ) → IsWrong verdict s text → stretch_of true s text ≡ stopped s verdict
wrong_stops Agrees s text never = absurd never
wrong_stops Answer s text w = compares_stops Answer s text refl w
wrong_stops Out s text w = compares_stops Out s text refl w
wrong_stops Rounds s text w = compares_stops Rounds s text refl w
wrong_stops (Unread line column) s text (some, w) = unread_stops line column s text some w
wrong_stops Open s text never = absurd never

-- ---- a whole log

-- the empty log agrees
pub nothing_told : replay_of [] ≡ told 0 Agrees
unfolding replay_of stretch_of
nothing_told = refl

-- a log that agrees is ours
agreed_ours : (log : List ℕ) (entries : ℕ) → replay_of log ≡ told entries Agrees → Ours log entries
unfolding replay_of
agreed_ours log entries e =
    let r : Stretch = stretch_of true ended log in
    let p = stretch_parts ended log in
    let agrees : r.verdict ≡ Agrees = ap (λ (c : Conclusion). c.verdict) e in
    let all : r.entries ≡ entries = rw agrees at (ap (λ (c : Conclusion). c.entry) e) in
    let none : drop r.taken log ≡ [] = subst (λ (v : Verdict). Ends v r.stream (drop r.taken log)) agrees p.ends in
    let own : List ℕ = log_from ended p.calls in
    record {
      calls = p.calls;
      allowed = p.allowed;
      spelled = p.parts ∙ ap (λ (rest : List ℕ). own ++ rest) none ∙ append-nil own;
      count = sym all ∙ p.count;
    }

-- a log of ours agrees
ours_agreed : (log : List ℕ) (entries : ℕ) → Ours log entries → replay_of log ≡ told entries Agrees
unfolding replay_of stretch_of
ours_agreed log entries o =
    let own : List ℕ = log_from ended o.calls in
    let row = in_a_row o.calls ended [] ended_key o.allowed in
    let all : length o.calls + 0 ≡ entries = omega (arith, o.count) in
    ap replay_of (o.spelled ∙ sym (append-nil own)) ∙ ap₂ told (row.0 ∙ all) row.1

-- a log agrees exactly where it is ours
pub agrees_exactly : (log : List ℕ) (entries : ℕ) → (replay_of log ≡ told entries Agrees) ↔ Ours log entries
agrees_exactly log entries = (agreed_ours log entries, ours_agreed log entries)

-- what is left behind the entries that agreed is wrong, where the verdict is another
ends_wrong : (verdict : Verdict) (s : Stream) (rest : List ℕ) → is_agreed verdict ≡ false → Ends verdict s rest → IsWrong verdict s rest
ends_wrong Agrees s rest stop ends = absurd (true≢false stop)
ends_wrong Answer s rest stop ends = ends
ends_wrong Out s rest stop ends = ends
ends_wrong Rounds s rest stop ends = ends
ends_wrong (Unread line column) s rest stop ends = ends
ends_wrong Open s rest stop ends = ends

-- an entry that is named is the first that is wrong
named_first : (log : List ℕ) (entry : ℕ) (verdict : Verdict) → is_agreed verdict ≡ false
    → replay_of log ≡ record { entry = entry; verdict = verdict }
    → FirstWrong log entry verdict
unfolding replay_of
named_first log entry verdict stop e =
    let r : Stretch = stretch_of true ended log in
    let p = stretch_parts ended log in
    let rest : List ℕ = drop r.taken log in
    let tells : r.verdict ≡ verdict = ap (λ (c : Conclusion). c.verdict) e in
    let next : r.entries + 1 ≡ entry = rw (tells, stop) at (ap (λ (c : Conclusion). c.entry) e) in
    record {
      calls = p.calls;
      allowed = p.allowed;
      rest = rest;
      parts = p.parts;
      number = omega (arith, p.count, next);
      wrong = ends_wrong verdict _ rest stop (subst₂ (λ (v : Verdict) (s : Stream). Ends v s rest) tells p.behind p.ends);
    }

-- the first that is wrong is named
first_named : (log : List ℕ) (entry : ℕ) (verdict : Verdict) → is_agreed verdict ≡ false → FirstWrong log entry verdict
    → replay_of log ≡ record { entry = entry; verdict = verdict }
unfolding replay_of
first_named log entry verdict stop w =
    let row = in_a_row w.calls ended w.rest ended_key w.allowed in
    let last = wrong_stops verdict (after ended w.calls) w.rest w.wrong in
    let agreed : (stretch_of true ended (log_from ended w.calls ++ w.rest)).entries ≡ length w.calls =
    omega (arith, row.0, ap (λ (r : Stretch). r.entries) last) in
    let number : length w.calls + 1 ≡ entry = omega (arith, w.number) in
    ap replay_of w.parts
    ∙ ap₂ told agreed (row.1 ∙ ap (λ (r : Stretch). r.verdict) last)
    ∙ rw (stop, number)

-- an entry is named exactly where it is the first that is wrong
pub first_exactly : (log : List ℕ) (entry : ℕ) (verdict : Verdict) → is_agreed verdict ≡ false
    → (replay_of log ≡ record { entry = entry; verdict = verdict }) ↔ FirstWrong log entry verdict
first_exactly log entry verdict stop = (named_first log entry verdict stop, first_named log entry verdict stop)

-- ---- what stands behind an entry that differs

-- an entry that differs was read
difference_read : (s : Stream) (text : List ℕ) → is_difference (step_of true s text).verdict ≡ true → (read_entry text).answer ≡ Done
difference_read s text =
    by_reading true s text (λ step. is_difference step.verdict ≡ true → (read_entry text).answer ≡ Done) (λ d differs. d) (λ e differs. absurd (false≢true differs))

-- where an entry differs, a stretch is the same with more behind it
same_behind : (more : List ℕ) (s : Stream) (text : List ℕ) → is_difference (stretch_of true s text).verdict ≡ true
    → stretch_of true s (text ++ more) ≡ stretch_of true s text
same_behind more = by_entries true Same (λ s differs. absurd (false≢true differs)) stops goes
  where
    Same : Stream → List ℕ → Stretch → Type 0
    Same s text r = is_difference r.verdict ≡ true → stretch_of true s (text ++ more) ≡ r

    some_more : (text : List ℕ) → 1 ≤ length text → 1 ≤ length (text ++ more)
    some_more text some = omega (arith, length-append text more)

    stops : (s : Stream) (text : List ℕ) → 1 ≤ length text → is_agreed (step_of true s text).verdict ≡ false → Same s text (stopped s (step_of true s text).verdict)
    stops s text some stop differs =
        let same = step_same true true s text more (difference_read s text differs) in
        stretch_step true s (text ++ more) (some_more text some) ∙ rw (same, stop)

    goes : (s : Stream) (text : List ℕ) (r : Stretch) → let step = step_of true s text in is_agreed step.verdict ≡ true
        → Same step.next (drop step.taken text) r → Same s text (further step.taken r)
    goes s text r agreed later differs =
        let taken : ℕ = (step_of true s text).taken in
        let inside = step_inside true s text agreed in
        let same = step_same true true s text more (agreed_read true s text agreed) in
        stretch_step true s (text ++ more) (some_more text (omega arith))
        ∙ rw (same, agreed, drop-append-le taken text more inside.1) (ap (further taken) (later differs))

-- nothing behind such an entry matters
pub nothing_behind : (log more : List ℕ) → is_difference (replay_of log).verdict ≡ true → replay_of (log ++ more) ≡ replay_of log
unfolding replay_of
nothing_behind log more differs = ap (λ (r : Stretch). told r.entries r.verdict) (same_behind more ended log differs)
