use Rattle.std.proofs.Common.{◌≡◌, ◌++◌, [], Result, Ok, Err, OnOk, append-nil, refl, sym}
use Rattle.verdict_text.specs.Lines.{ok_line}
use Rattle.replies.proofs.checking.add_verdict.Goals as goal

kept : {X Y A B : Type 0} (r : Result X Y) → (A → B) → OnOk r A → OnOk r B
kept (Ok x) f a = f a
kept (Err e) f a = tt

pub returns-in-Ok : goal.returns-in-Ok
returns-in-Ok c =
    kept {A = c.push_ok.new.text.items ≡ c.args.answer.now.out.items ++ ok_line c.args.file.now} c.push_ok.result (λ pushed. record {
      list = [];
      verdict = c.in-Ok.ensures;
      told = sym (append-nil c.args.answer.now.err.items);
      fine = pushed;
      ends = refl;
    }) c.push_ok.ensures
