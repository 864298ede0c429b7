-- What a run is to write, as a text, as a netlist, as the run of a module, as waves, or as a manual.
use Rattle.std.specs.Prelude.{ℕ, List, [], ⊤}
use Rattle.html_manual.specs.Page.{text_of as page_of}
use Rattle.report_text.specs.Printed.{printed_run}
use Rattle.v_printer.specs.Layout.{text_of}
use Rattle.v_printer.specs.TextOf.{IsTextOf, IsWhole}
use Rattle.wave_text.specs.Ready.{IsAtZeros, IsDumpOf}
use Rattle.replies.specs.declared.answer.Reply.{Reply}
use Rattle.replies.specs.declared.answer.Reply.TheVariants.{Text, Module, Dump, Table, Page}
use Rattle.replies.specs.declared.status.Status.{Status}
use Rattle.replies.specs.declared.status.Status.TheVariants.{Done}
use Rattle.replies.specs.Outcome.{Texts}
use Rattle.replies.specs.Answer.{texts_of}

abbrev pub status_of : Reply → Status
status_of (Text answer) = answer.status
status_of (Module net) = Done
status_of (Dump run) = Done
status_of (Table waves) = Done
status_of (Page manual) = Done

-- the texts, where a netlist stands for the text of its module, a run for this dump, waves for their table, and a manual for its page
abbrev pub told_by : Reply → (dump : List ℕ) → Texts
told_by (Text answer) dump = texts_of answer
told_by (Module net) dump = record { err = []; out = text_of net }
told_by (Dump run) dump = record { err = []; out = dump }
told_by (Table waves) dump = record { err = []; out = printed_run waves.pins waves.rows }
told_by (Page manual) dump = record { err = []; out = page_of manual }

-- a netlist is whole, and a run begins at zeros
abbrev pub IsPrintable : Reply → Type 0
IsPrintable (Text answer) = ⊤
IsPrintable (Module net) = IsWhole net
IsPrintable (Dump run) = IsAtZeros run
IsPrintable (Table waves) = ⊤
IsPrintable (Page manual) = ⊤

-- the text of a netlist is a module of it, and this dump is one of a run, which writing them ensures
abbrev pub HasText : Reply → (dump : List ℕ) → Type 0
HasText (Text answer) dump = ⊤
HasText (Module net) dump = IsTextOf net (text_of net)
HasText (Dump run) dump = IsDumpOf run dump
HasText (Table waves) dump = ⊤
HasText (Page manual) dump = ⊤
