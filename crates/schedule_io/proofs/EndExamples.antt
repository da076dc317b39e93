-- Examples: how a run of a text ends, in what its writers hold then and in its status, and what the words of the
-- command line come to.
use Rattle.std.proofs.Common.{◌≡◌, ◌≢◌, List, [], ◌∷◌, ◌++◌, ℕ, true, false, refl, sym, subst, ◌∙◌, ap, ap₂, inl, inr, get_or}
use Rattle.std.proofs.Common.{◌≤◌, length, arith}
use Rattle.std.specs.Prelude.{codes, Option, Some, None, Result, Ok, Err, IsOk, unwrap_or, map}
use Rattle.std.specs.Fmt.{digits}
use Rattle.std.specs.Global.{Vec}
use Rattle.std.specs.Io.KnownBytes.{Appends}
use Rattle.std.specs.Str.{is_utf8, chars}
use Rattle.base.specs.Entity.{order_of}
use Rattle.trade.specs.declared.commands.OrderCommand.TheVariants.{CancelOrder}
use Rattle.activities.specs.declared.handler.Refusal.TheVariants.{NotOpen}
use Rattle.clap.proofs.OnLiterals.{clap_on_literals}
use Rattle.std.specs.Borrow.{Bor}
use Rattle.clap.specs.Simple.{matches_of}
use Rattle.clap.specs.Words.{Text, fault_of}
use Rattle.clap.specs.declared.error.kind.ErrorKind.TheVariants.{DisplayHelp, DisplayVersion, InvalidValue, UnknownArgument}
use Rattle.schedule_text.specs.declared.event.Event.{Event}
use Rattle.schedule_text.specs.declared.event.Event.TheVariants.{Order}
use Rattle.schedule_text.specs.declared.outcome.Outcome.TheVariants.{NotDone}
use Rattle.schedule_text.specs.Events.{events_of}
use Rattle.schedule_io.specs.declared.fault.RunFault.TheVariants.{BadEvent, Memory, Device, Unopened}
use Rattle.schedule_io.specs.declared.fault.StoresFault.{StoresFault}
use Rattle.schedule_io.specs.declared.fault.StoresFault.TheVariants.{Purchasing, Warehouse, Billing}
use Rattle.schedule_io.specs.Ends.{Writers, lines_of, IsCutOff, IsReadFrom, AreRun, IsRunOf, IsUnread, IsRunFrom, IsEndOf, IsUntold}
use Rattle.schedule_io.specs.Ends.{fault_line}
use Rattle.schedule_text.specs.declared.outcome.Outcome.{Outcome}
use Rattle.schedule_io.specs.Asked.{AreKeeps, IsAskedFor, command_line}
use Rattle.schedule_io.specs.declared.choice.StoreChoice.TheVariants.{Plain, Sqlite, Files}
use Rattle.schedule_io.specs.Usage.{IsAsked, IsStatusOf, IsUsage, IsCutUsage, IsWordAnswer}
use Rattle.streams.specs.Written.{AppendsPart}

-- a schedule of one line, which cancels an order that wasn't placed
abbrev cancels : List ℕ
cancels = codes "cancel 0 o1\n"

abbrev cancel : Event
cancel = Order (record { seat = 0; entity = order_of (codes "o1"); command = CancelOrder })

-- what is told of it: the order isn't open
abbrev refused : List ℕ
refused = codes "refused 61 71\n"

-- a schedule whose second line lacks the order
abbrev faulty : List ℕ
faulty = codes "cancel 0 o1\ncancel 0\n"

line_is_read : events_of cancels ≡ Ok (cancel ∷ [])
unfolding is_utf8 chars lib.Utf8.encode
line_is_read = refl

second_line_is_faulty : events_of faulty ≡ Err 2
unfolding is_utf8 chars lib.Utf8.encode
second_line_is_faulty = refl

fault_is_told : fault_line (BadEvent 2) ≡ codes "line 2: bad event\n"
unfolding digits
fault_is_told = refl

-- what is told of the one line
refusal_is_told : lines_of (NotDone NotOpen ∷ []) ≡ refused
unfolding digits
refusal_is_told = refl

-- a writer that failed holds a beginning of what was to be written, which may be nothing or all of it, but not octets
-- from its middle
a_beginning_is_written : (AppendsPart (Some []) (Some (codes "refu")) refused)
    × (AppendsPart (Some []) (Some []) refused)
    × (AppendsPart (Some (codes "a\n")) (Some (codes "a\nrefused 61 71\n")) refused)
    × (AppendsPart (Some []) (Some (codes "used")) refused → ⊥)
a_beginning_is_written = (
  record { part = codes "refu"; rest = codes "sed 61 71\n"; whole = refl; appended = refl },
  record { part = []; rest = refused; whole = refl; appended = refl },
  record { part = refused; rest = []; whole = refl; appended = refl },
  λ h. let whole : refused ≡ codes "used" ++ h.rest = h.whole ∙ ap (λ part. part ++ h.rest) (sym h.appended) in
      let first : 114 ≡ 117 = ap (λ text. get_or text 0 0) whole in omega arith,
)

abbrev refusal : Outcome
refusal = NotDone NotOpen

-- behind the refusal's lines there is no part of them alone
not_cut : (mid : Option (List ℕ)) (more : List Outcome) (part : List ℕ)
    → Appends (Some []) mid (lines_of (refusal ∷ more)) → Appends mid (Some (codes "refu")) part → ⊥
unfolding digits
not_cut None more part first second = first
not_cut (Some xs) more part first second =
    let whole : codes "refu" ≡ lines_of (refusal ∷ more) ++ part =
    second ∙ ap (λ (text : List ℕ). text ++ part) first in
    absurd (cc)

-- a writer that is cut off holds a beginning of the last outcome's lines behind those before it, or all lines; where two
-- events were made it doesn't hold a part of the first one's alone
writers_are_cut_off : (IsCutOff (Some []) (Some (codes "refu")) (refusal ∷ []))
    × (IsCutOff (Some []) (Some refused) (refusal ∷ []))
    × (IsCutOff (Some []) (Some (refused ++ codes "refu")) (refusal ∷ refusal ∷ []))
    × (IsCutOff (Some []) (Some (codes "refu")) (refusal ∷ refusal ∷ []) → ⊥)
unfolding digits
writers_are_cut_off = (
  record {
    before = [];
    last = refusal ∷ [];
    one = omega arith;
    are = refl;
    mid = Some [];
    written = refl;
    part = record { part = codes "refu"; rest = codes "sed 61 71\n"; whole = refl; appended = refl };
  },
  record {
    before = refusal ∷ [];
    last = [];
    one = omega arith;
    are = refl;
    mid = Some refused;
    written = refl;
    part = record { part = []; rest = []; whole = refl; appended = refl };
  },
  record {
    before = refusal ∷ [];
    last = refusal ∷ [];
    one = omega arith;
    are = refl;
    mid = Some refused;
    written = refl;
    part = record { part = codes "refu"; rest = codes "sed 61 71\n"; whole = refl; appended = refl };
  },
  λ h. let two = first_is_whole h.before h.last h.one h.are in
      not_cut h.mid two.0 h.part.part
      (subst (λ os. Appends (Some []) h.mid (lines_of os)) two.1 h.written) h.part.appended,
)
  where
    first_is_whole : (before last : List Outcome) → length last ≤ 1 → refusal ∷ refusal ∷ [] ≡ before ++ last
        → (more : List Outcome) × (before ≡ refusal ∷ more)
    first_is_whole [] last one are = let long = ap length are in absurd (omega arith)
    first_is_whole (o ∷ os) last one are = (os, cc)

-- ---- whatever a run is, and for whatever faults stores fail
module _ (Run : List Event → List Outcome → Type 0) (Fails : StoresFault → Type 0) where
  -- where the second line is faulty the first isn't run either
  a_faulty_line_runs_nothing : (IsRunOf Run Fails faulty (Some []) (Some []) (Err (BadEvent 2)))
      × (IsRunOf Run Fails faulty (Some []) (Some refused) (Err (BadEvent 2)) → ⊥)
      × (IsRunOf Run Fails faulty (Some []) (Some refused) (Ok tt) → ⊥)
  a_faulty_line_runs_nothing = (
    (second_line_is_faulty, refl),
    λ h. let more = h.1 in absurd (cc),
    λ h. let events = sym second_line_is_faulty ∙ h.1.read in absurd (cc),
  )

  -- where a store can't be opened nothing is written; that isn't told of a faulty text, nor where no store fails so
  an_unopened_store_runs_nothing : (fault : StoresFault) → Fails fault
      → (IsRunOf Run Fails cancels (Some []) (Some []) (Err (Unopened fault)))
      × (IsRunOf Run Fails cancels (Some []) (Some refused) (Err (Unopened fault)) → ⊥)
      × (IsRunOf Run Fails faulty (Some []) (Some []) (Err (Unopened fault)) → ⊥)
      × (IsRunOf Run (λ _. ⊥) cancels (Some []) (Some []) (Err (Unopened fault)) → ⊥)
  an_unopened_store_runs_nothing fault fails = (
    (subst (λ (r : Result (List Event) ℕ). IsOk r) (sym line_is_read) refl, fails, refl),
    λ h. let more = h.2 in absurd (cc),
    λ h. let no : false ≡ true = subst (λ (r : Result (List Event) ℕ). IsOk r) second_line_is_faulty h.0 in absurd (cc),
    λ h. h.1,
  )

-- where nothing was read, for want of memory or since the reader failed, nothing is written and no line is at fault
nothing_is_read : (IsUnread (Some refused) (Some refused) (Err Memory))
    × (IsUnread (Some refused) (Some refused) (Err Device))
    × (IsUnread (Some []) (Some refused) (Err Device) → ⊥) × (IsUnread (Some []) (Some []) (Err (BadEvent 1)) → ⊥)
    × (IsUnread (Some []) (Some []) (Ok tt) → ⊥)
nothing_is_read = (refl, refl, λ h. absurd (cc), λ h. h, λ h. h)

-- the events of what the reader had left are read, or its faulty line is told; nothing is known where memory was refused
schedules_are_read : (events : Vec Event) → events.items ≡ cancel ∷ []
    → (IsReadFrom (Some cancels) (Ok events))
    × (IsReadFrom (Some faulty) (Err (BadEvent 2)))
    × (IsReadFrom (Some cancels) (Err (BadEvent 2)) → ⊥)
    × (IsReadFrom (Some cancels) (Err Memory))
schedules_are_read events is = (
  (cancels, refl, line_is_read ∙ ap (λ es. Ok es) (sym is)),
  (faulty, refl, second_line_is_faulty),
  λ h. let answer = sym line_is_read ∙ ap events_of (sym h.1) ∙ h.2 in absurd (cc),
  tt,
)

-- what the writers hold
abbrev hold : List ℕ → List ℕ → Writers
hold out err = record { out = Some out; err = Some err }

-- ---- the words of the command line

-- the program's name, and these words
abbrev behind : List (List ℕ) → List (List ℕ)
behind words = codes "outbox-schedule" ∷ words

-- two references to these words
two_words : (l : List (Bor Text)) → map (λ name. name.now) l ≡ codes "plain" ∷ codes "sqlite" ∷ []
    → (a : Bor Text) × (b : Bor Text) × (l ≡ record a { now = codes "plain" } ∷ record b { now = codes "sqlite" } ∷ [])
two_words [] h = absurd (cc)
two_words (a ∷ []) h = absurd (cc)
two_words (a ∷ b ∷ []) h = (
  a,
  b,
  ap₂ (λ x y. record a { now = x } ∷ record b { now = y } ∷ []) (ap (λ l. get_or l 0 []) h) (ap (λ l. get_or l 1 []) h),
)
two_words (a ∷ b ∷ c ∷ rest) h = absurd (cc)

-- the program's name alone has nothing at fault, nor has a word that may stand behind `--keep`; another has
words_are_taken : (keeps : Bor (List (Bor Text))) → AreKeeps keeps
    → (fault_of (command_line keeps) (behind []) ≡ [])
    × (fault_of (command_line keeps) (behind (codes "--keep" ∷ codes "sqlite" ∷ codes "--dir" ∷ codes "d" ∷ [])) ≡ [])
    × (fault_of (command_line keeps) (behind (codes "--keep" ∷ codes "all" ∷ [])) ≡ InvalidValue ∷ [])
unfolding clap_on_literals
words_are_taken keeps are =
    let is = (two_words keeps.now are).2 in (
      subst (λ l. fault_of (command_line (record keeps { now = l })) (behind []) ≡ []) (sym is) refl,
      subst (λ l. fault_of (command_line (record keeps { now = l }))
          (behind (codes "--keep" ∷ codes "sqlite" ∷ codes "--dir" ∷ codes "d" ∷ [])) ≡ []) (sym is) refl,
      subst (λ l. fault_of (command_line (record keeps { now = l })) (behind (codes "--keep" ∷ codes "all" ∷ []))
          ≡ InvalidValue ∷ []) (sym is) refl,
    )

-- whatever refers to them
module _ (keeps : Bor (List (Bor Text))) where
  -- `--help` asks for help and `--version` for the version, there is no other option but these, `--keep`, `--dir` and
  -- `--migrate`, and an empty path names no folder
  words_have_faults : (fault_of (command_line keeps) (behind (codes "--help" ∷ [])) ≡ DisplayHelp ∷ [])
      × (fault_of (command_line keeps) (behind (codes "--version" ∷ [])) ≡ DisplayVersion ∷ [])
      × (fault_of (command_line keeps) (behind (codes "--all" ∷ [])) ≡ UnknownArgument ∷ [])
      × (fault_of (command_line keeps) (behind (codes "--dir" ∷ [] ∷ [])) ≡ InvalidValue ∷ [])
      × (fault_of (command_line keeps) (behind (codes "--dir=" ∷ [])) ≡ InvalidValue ∷ [])
  unfolding clap_on_literals
  words_have_faults = (refl, refl, refl, refl, refl)

  -- a word that begins otherwise isn't `sqlite`
  not_sqlite : (word : List ℕ) → get_or word 0 0 ≢ 115 → Some word ≡ Some (codes "sqlite") → ⊥
  not_sqlite word other same = other (ap (λ o. get_or (unwrap_or o []) 0 0) same)

  -- the two texts of a flag differ
  false_flag : Some (codes "false") ≡ Some (codes "true") → ⊥
  false_flag same = let no = ap (λ o. get_or (unwrap_or o []) 0 0) same in absurd (cc)

  -- no words ask for ordered maps, `--keep sqlite` for SQL in memory, and with `--dir` for files; that alone asks for none
  words_ask : (folder : Bor Text) → folder.now ≡ codes "d"
      → IsAskedFor (matches_of (command_line keeps) (behind [])) Plain
      × IsAskedFor (matches_of (command_line keeps) (behind (codes "--keep" ∷ codes "sqlite" ∷ []))) Sqlite
      × IsAskedFor (matches_of (command_line keeps) (behind (codes "--keep=sqlite" ∷ codes "--dir" ∷ codes "d" ∷ [])))
      (Files folder false)
      × IsAskedFor (matches_of (command_line keeps)
      (behind (codes "--migrate" ∷ codes "--keep=sqlite" ∷ codes "--dir" ∷ codes "d" ∷ []))) (Files folder true)
      × IsAskedFor (matches_of (command_line keeps) (behind (codes "--dir" ∷ codes "d" ∷ []))) Plain
      × (IsAskedFor (matches_of (command_line keeps) (behind (codes "--keep" ∷ codes "sqlite" ∷ []))) Plain → ⊥)
  unfolding clap_on_literals
  words_ask folder is = (
    not_sqlite (codes "plain") (omega arith),
    (refl, refl),
    (refl, ap (λ t. Some t) (sym is), (λ on. absurd (false_flag on), λ off. refl)),
    (refl, ap (λ t. Some t) (sym is), (λ on. refl, λ off. absurd (false_flag (sym off)))),
    not_sqlite (codes "plain") (omega arith),
    λ h. h refl,
  )

-- help and the version have status 0, and `err` is as it was; a fault of usage has status 2, and `out` is as it was
help_is_told : (IsUsage DisplayHelp (hold [] []) (hold (codes "Runs\n") []) 0)
    × (IsUsage UnknownArgument (hold [] []) (hold [] (codes "error\n")) 2)
    × (IsUsage DisplayVersion (hold [] []) (hold (codes "outbox-schedule 0.1.0\n") []) 0)
    × (IsUsage UnknownArgument (hold [] []) (hold [] (codes "error\n")) 0 → ⊥)
    × (IsUsage DisplayVersion (hold [] []) (hold (codes "outbox-schedule 0.1.0\n") []) 2 → ⊥)
help_is_told = (
  inl (refl, refl, refl),
  inr (refl, refl, refl),
  inl (refl, refl, refl),
  λ h. elim h [ inl help ↦ let asked = help.0 in absurd (cc) | inr fault ↦ let status = fault.1 in absurd (cc) ],
  λ h. elim h [ inl help ↦ let status = help.1 in absurd (cc) | inr fault ↦ let asked = fault.0 in absurd (cc) ],
)

-- the stream failed on which help or the fault was to be told; the other is as it was
help_is_cut : (IsCutUsage DisplayHelp (hold [] []) (hold (codes "Ru") []))
    × (IsCutUsage UnknownArgument (hold [] []) (hold [] (codes "err")))
    × (IsCutUsage DisplayHelp (hold [] []) (hold (codes "Ru") (codes "err")) → ⊥)
help_is_cut = (
  inl (refl, refl),
  inr (refl, refl),
  λ h. elim h [ inl help ↦ let kept = help.1 in absurd (cc) | inr fault ↦ let asked = fault.0 in absurd (cc) ],
)

-- in place of a run: help; a fault of the words; help in part, with status 1; or that memory was refused over the
-- words, on `err`
words_are_answered : (IsWordAnswer (DisplayHelp ∷ []) (hold [] []) (hold (codes "Runs\n") []) 0)
    × (IsWordAnswer (UnknownArgument ∷ []) (hold [] []) (hold [] (codes "error\n")) 2)
    × (IsWordAnswer (DisplayHelp ∷ []) (hold [] []) (hold (codes "Ru") []) 1)
    × (IsWordAnswer [] (hold [] []) (hold [] (codes "fault 81 Memory\n")) 1)
    × (IsWordAnswer [] (hold [] []) (hold [] []) 0 → ⊥)
words_are_answered = (
  inl (DisplayHelp, inl refl, inl (help_is_told.0)),
  inl (UnknownArgument, inl refl, inl (help_is_told.1)),
  inl (DisplayHelp, inl refl, inr (refl, help_is_cut.0)),
  inr (refl, refl, record { part = fault_line Memory; rest = []; whole = refl; appended = refl }),
  λ h. elim h [ inl told ↦ told.1 | inr memory ↦ let status = memory.0 in absurd (cc) ],
)

-- ---- a run of one line whose outcome is that refusal
module _ (Run : List Event → List Outcome → Type 0) (Fails : StoresFault → Type 0)
    (ran : Run (cancel ∷ []) (NotDone NotOpen ∷ [])) where
  -- its event is run and the refusal written, or a beginning of it where the writer failed; no other fault is told, but
  -- where a store may fail to open
  an_event_is_run : (AreRun Run Fails (cancel ∷ []) (Some []) (Some refused) (Ok tt))
      × (AreRun Run Fails (cancel ∷ []) (Some []) (Some (codes "refu")) (Err Device))
      × (AreRun Run Fails (cancel ∷ []) (Some []) (Some refused) (Err Memory) → ⊥)
      × (AreRun Run Fails (cancel ∷ []) (Some []) (Some []) (Err (BadEvent 1)) → ⊥)
      × ((fault : StoresFault) → AreRun Run (λ _. ⊥) (cancel ∷ []) (Some []) (Some []) (Err (Unopened fault)) → ⊥)
  an_event_is_run = (
    (refusal ∷ [], ran, sym refusal_is_told),
    (refusal ∷ [], ran, writers_are_cut_off.0),
    λ h. h,
    λ h. h,
    λ fault h. h.0,
  )

  -- it is run and the refusal written, or a beginning of it where the writer failed; or memory was refused, and nothing
  -- is written
  a_line_is_run : (IsRunOf Run Fails cancels (Some []) (Some refused) (Ok tt))
      × (IsRunOf Run Fails cancels (Some []) (Some (codes "refu")) (Err Device))
      × (IsRunOf Run Fails cancels (Some []) (Some []) (Err Memory))
      × (IsRunOf Run Fails cancels (Some []) (Some refused) (Err Memory) → ⊥)
  a_line_is_run = (
    (NotDone NotOpen ∷ [], record { events = cancel ∷ []; read = line_is_read; ran = ran }, sym refusal_is_told),
    (
      NotDone NotOpen ∷ [],
      record { events = cancel ∷ []; read = line_is_read; ran = ran },
      subst (λ t. AppendsPart (Some []) (Some (codes "refu")) t) (sym refusal_is_told) a_beginning_is_written.0,
    ),
    refl,
    λ h. absurd (cc),
  )

  -- what the reader has left is run, where it is known; else it's the run of some text
  what_is_left_is_run : (IsRunFrom Run Fails (Some cancels) (Some []) (Some refused) (Ok tt))
      × (IsRunFrom Run Fails None (Some []) (Some refused) (Ok tt))
      × (IsRunFrom Run Fails (Some faulty) (Some []) (Some []) (Err (BadEvent 2)))
      × (IsRunFrom Run Fails (Some faulty) (Some []) (Some []) (Err Device))
      × (IsRunFrom Run Fails (Some cancels) (Some []) (Some []) (Err (BadEvent 2)) → ⊥)
  what_is_left_is_run = (
    inl (cancels, refl, a_line_is_run.0),
    inl (cancels, tt, a_line_is_run.0),
    inl (faulty, refl, (a_faulty_line_runs_nothing Run Fails).0),
    inr refl,
    not_faulty,
  )
    where
      not_faulty : IsRunFrom Run Fails (Some cancels) (Some []) (Some []) (Err (BadEvent 2)) → ⊥
      not_faulty (inl (text, is, told)) = let answer = sym line_is_read ∙ ap events_of (sym is) ∙ told.0 in absurd (cc)
      not_faulty (inr h) = h

  -- status 0: the refusal stands on `out` and nothing on `err`; status 1: the faulty line is told on `err`, and nothing
  -- stands on `out`
  ends_have_a_status : (IsEndOf Run Fails (Some cancels) (hold [] []) (hold refused []) 0)
      × (IsEndOf Run Fails (Some faulty) (hold [] []) (hold [] (codes "line 2: bad event\n")) 1)
      × (IsEndOf Run Fails (Some cancels) (hold [] []) (hold (codes "refu") (codes "fault 2 Device\n")) 1)
      × (IsEndOf Run Fails (Some cancels) (hold [] []) (hold refused []) 1 → ⊥)
      × (IsEndOf Run Fails (Some cancels) (hold [] []) (hold refused []) 2 → ⊥)
      × (IsEndOf Run Fails (Some cancels) (hold [] []) (hold [] refused) 0 → ⊥)
  ends_have_a_status = (
    inl (refl, refl, what_is_left_is_run.0),
    inr (refl, BadEvent 2, what_is_left_is_run.2, sym fault_is_told),
    inr (refl, Device, inl (cancels, refl, a_line_is_run.1), refl),
    silent,
    λ h. elim h [ inl whole ↦ let status = whole.0 in absurd (cc) | inr fault ↦ let status = fault.0 in absurd (cc) ],
    λ h. elim h [ inl whole ↦ let kept = whole.1 in absurd (cc) | inr fault ↦ let status = fault.0 in absurd (cc) ],
  )
    where
      nothing : (octet : ℕ) (octets : List ℕ) → [] ≡ octet ∷ octets → ⊥
      nothing octet octets told = absurd (cc)

      silent : IsEndOf Run Fails (Some cancels) (hold [] []) (hold refused []) 1 → ⊥
      silent (inl whole) = let status = whole.0 in absurd (cc)
      silent (inr (status, BadEvent number, run, told)) = nothing _ _ told
      silent (inr (status, Memory, run, told)) = nothing _ _ told
      silent (inr (status, Device, run, told)) = nothing _ _ told
      silent (inr (status, Unopened (Purchasing fault), run, told)) = nothing _ _ told
      silent (inr (status, Unopened (Warehouse fault), run, told)) = nothing _ _ told
      silent (inr (status, Unopened (Billing fault), run, told)) = nothing _ _ told

  -- `err` failed while the faulty line was told: it holds a beginning of that, and the status is 1 as well
  an_end_is_told_in_part : (IsUntold Run Fails (Some faulty) (hold [] []) (hold [] (codes "line")))
      × (IsStatusOf Run Fails (Some faulty) (hold [] []) (hold [] (codes "line")) 1)
      × (IsStatusOf Run Fails (Some cancels) (hold [] []) (hold refused []) 0)
      × (IsStatusOf Run Fails (Some faulty) (hold [] []) (hold [] (codes "line")) 2 → ⊥)
  an_end_is_told_in_part = (untold, inr (refl, untold), inl (ends_have_a_status.0), no_usage)
    where
      untold : IsUntold Run Fails (Some faulty) (hold [] []) (hold [] (codes "line"))
      untold = (
        BadEvent 2,
        what_is_left_is_run.2,
        record { part = codes "line"; rest = codes " 2: bad event\n"; whole = fault_is_told; appended = refl },
      )

      no_usage : IsStatusOf Run Fails (Some faulty) (hold [] []) (hold [] (codes "line")) 2 → ⊥
      no_usage (inl (inl whole)) = let status = whole.0 in absurd (cc)
      no_usage (inl (inr fault)) = let status = fault.0 in absurd (cc)
      no_usage (inr part) = let status = part.0 in absurd (cc)

-- ---- what words come to
module _ (keeps : Bor (List (Bor Text))) (are : AreKeeps keeps) where
  -- `--keep sqlite` asks for SQL in memory, and nothing is told; `--help` is told, and nothing is asked for
  words_come_to : (IsAsked (behind (codes "--keep" ∷ codes "sqlite" ∷ codes "--dir" ∷ codes "d" ∷ [])) (hold [] [])
      (hold [] (codes "e")) (Ok Sqlite) → ⊥)
      × (IsAsked (behind (codes "--help" ∷ [])) (hold [] []) (hold (codes "Runs\n") []) (Err 0))
  unfolding clap_on_literals
  words_come_to = (
    λ h. let same = h.asks.2 in let kept = ap (λ (w : Writers). w.err) same in absurd (cc),
    record { keeps = keeps; are = are; asks = tt; tells = (words_are_answered.0, λ no. absurd (cc)) },
  )
