-- A reply that was written.
use Rattle.std.proofs.Common.{◌≡◌, ◌⊎◌, inl, inr, ℕ, List, [], refl, sym, subst}
use Rattle.rb_edge.specs.Count.{Rose}
use Rattle.rb_edge.specs.Sink.{TakesPart}
use Rattle.v_printer.specs.Layout.{text_of}
use Rattle.v_printer.specs.TextOf.{IsTextOf}
use Rattle.rtl_net.specs.Net.{Net}
use Rattle.html_manual.specs.Page.{Planned, text_of as page_of}
use Rattle.report_text.specs.Printed.{printed_run}
use Rattle.vcd_reader.specs.Tables.{Table as Waves}
use Rattle.wave_text.specs.Ready.{IsDumpOf}
use Rattle.wave_text.specs.declared.wave_run.WaveRun.{WaveRun}
use Rattle.replies.specs.declared.answer.Answer.{Answer}
use Rattle.replies.specs.declared.answer.Reply.{Reply}
use Rattle.replies.specs.declared.answer.Reply.TheVariants.{Text, Module, Dump, Table, Page}
use Rattle.replies.specs.declared.status.Status.{Status}
use Rattle.replies.specs.declared.status.Status.TheVariants.{Done, WriteFault}
use Rattle.replies.specs.Outcome.{Texts}
use Rattle.replies.specs.Answer.{texts_of}
use Rattle.replies.specs.Reply.{HasText, status_of, told_by}
use Rattle.replies.specs.Ends.{Passage, TookAll, IsCutShort}

-- all of it was taken, or a text is cut short
abbrev pub Took : Passage → Passage → Status → Texts → Status → Type 0
Took err out status texts result = ((result ≡ status) × TookAll err texts.err × TookAll out texts.out) ⊎ ((result ≡ WriteFault) × IsCutShort err out texts)

abbrev pub IsWritten : Passage → Passage → Reply → Status → Type 0
IsWritten err out reply result = (dump : List ℕ) × HasText reply dump × Took err out (status_of reply) (told_by reply dump) result

pub text-written : (err out : Passage) (reply : Reply) (answer : Answer) (result : Status) → reply ≡ Text answer → Took err out answer.status (texts_of answer) result → IsWritten err out reply result
text-written err out reply answer result e t = subst (λ r. IsWritten err out r result) (sym e) ([], tt, t)

pub dump-whole : (err out : Passage) (reply : Reply) (run : WaveRun) (dump : List ℕ) → reply ≡ Dump run → IsDumpOf run dump → TookAll err [] → TookAll out dump → IsWritten err out reply Done
dump-whole err out reply run dump e is q t = subst (λ r. IsWritten err out r Done) (sym e) (dump, is, inl (refl, q, t))

pub dump-cut : (err out : Passage) (reply : Reply) (run : WaveRun) (dump : List ℕ) → reply ≡ Dump run → IsDumpOf run dump → TookAll err [] → TakesPart out.old out.new dump → Rose out.before out.after → IsWritten err out reply WriteFault
dump-cut err out reply run dump e is q t rose = subst (λ r. IsWritten err out r WriteFault) (sym e) (dump, is, inr (refl, inr (q, (t, rose))))

pub module-whole : (err out : Passage) (reply : Reply) (net : Net) → reply ≡ Module net → IsTextOf net (text_of net) → TookAll err [] → TookAll out (text_of net) → IsWritten err out reply Done
module-whole err out reply net e is q t = subst (λ r. IsWritten err out r Done) (sym e) ([], is, inl (refl, q, t))

pub module-cut : (err out : Passage) (reply : Reply) (net : Net) → reply ≡ Module net → IsTextOf net (text_of net) → TookAll err [] → TakesPart out.old out.new (text_of net) → Rose out.before out.after → IsWritten err out reply WriteFault
module-cut err out reply net e is q t rose = subst (λ r. IsWritten err out r WriteFault) (sym e) ([], is, inr (refl, inr (q, (t, rose))))

pub table-whole : (err out : Passage) (reply : Reply) (waves : Waves) → reply ≡ Table waves → TookAll err [] → TookAll out (printed_run waves.pins waves.rows) → IsWritten err out reply Done
table-whole err out reply waves e q t = subst (λ r. IsWritten err out r Done) (sym e) ([], tt, inl (refl, q, t))

pub table-cut : (err out : Passage) (reply : Reply) (waves : Waves) → reply ≡ Table waves → TookAll err [] → TakesPart out.old out.new (printed_run waves.pins waves.rows) → Rose out.before out.after → IsWritten err out reply WriteFault
table-cut err out reply waves e q t rose = subst (λ r. IsWritten err out r WriteFault) (sym e) ([], tt, inr (refl, inr (q, (t, rose))))

pub page-whole : (err out : Passage) (reply : Reply) (manual : Planned) → reply ≡ Page manual → TookAll err [] → TookAll out (page_of manual) → IsWritten err out reply Done
page-whole err out reply manual e q t = subst (λ r. IsWritten err out r Done) (sym e) ([], tt, inl (refl, q, t))

pub page-cut : (err out : Passage) (reply : Reply) (manual : Planned) → reply ≡ Page manual → TookAll err [] → TakesPart out.old out.new (page_of manual) → Rose out.before out.after → IsWritten err out reply WriteFault
page-cut err out reply manual e q t rose = subst (λ r. IsWritten err out r WriteFault) (sym e) ([], tt, inr (refl, inr (q, (t, rose))))
