use Rattle.reader.proofs.JudgedLaws.{long_refused, buffer_refused}
use Rattle.reader.proofs.read_text.Goals as goal
use Rattle.reader.proofs.read_text.Goals.{then-text-gt-TEXT-via-then-text-gt-TEXT, then-text-gt-TEXT-via-else-text-gt-TEXT+then-file-ne-FILE}

pub returns-then-text-gt-TEXT : goal.returns-then-text-gt-TEXT
returns-then-text-gt-TEXT c =
    elim c.then-text-gt-TEXT.branch [
      | then-text-gt-TEXT-via-then-text-gt-TEXT w ↦ long_refused c.args.text.now c.args.file.now w.if-text-gt-TEXT.true
      | then-text-gt-TEXT-via-else-text-gt-TEXT+then-file-ne-FILE w ↦ buffer_refused c.args.text.now c.args.file.now w.if-file-ne-FILE.true
    ]
