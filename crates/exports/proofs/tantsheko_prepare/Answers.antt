-- `tantsheko_prepare` meets its contract. Assumes nothing.
use mathlib.Core.Path.{ap}
use Rattle.exports.specs.ReplyWords.{reply_words}
use Rattle.exports.proofs.tantsheko_prepare.Goals as goal

pub returns : goal.returns
unfolding reply_words
returns c =
    record { answer = rw c.reply_words-said.ensures (ap reply_words c.prepare.ensures.answer); written = c.prepare.ensures.written; left = c.prepare.ensures.left }
