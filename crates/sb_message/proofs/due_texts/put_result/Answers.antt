use Rattle.std.proofs.Common.{sym}
use Rattle.sb_message.proofs.due_texts.put_result.Goals as goal

pub returns-in-Statement : goal.returns-in-Statement
returns-in-Statement c = rw c.in-Statement.is c.put_words.ensures

pub returns-in-ReplyOf : goal.returns-in-ReplyOf
returns-in-ReplyOf c = rw c.in-ReplyOf.is c.put_number.ensures

pub returns-in-Entry : goal.returns-in-Entry
returns-in-Entry c = rw (c.in-Entry.is, sym c.from.ensures) c.put_two.ensures

pub returns-in-Channel : goal.returns-in-Channel
returns-in-Channel c = rw c.in-Channel.is c.put_words-in-Channel.ensures

pub returns-in-CleanReply : goal.returns-in-CleanReply
returns-in-CleanReply c = rw (c.in-CleanReply.is, sym c.from-in-CleanReply.ensures) c.put_number-in-CleanReply.ensures

pub returns-in-OtherState : goal.returns-in-OtherState
returns-in-OtherState c = rw c.in-OtherState.is c.put_words-in-OtherState.ensures

pub returns-in-OtherMark : goal.returns-in-OtherMark
returns-in-OtherMark c = rw c.in-OtherMark.is c.put_number-in-OtherMark.ensures

pub returns-in-OfCall : goal.returns-in-OfCall
returns-in-OfCall c = rw c.in-OfCall.is c.put_words-in-OfCall.ensures

pub returns-in-OfStore : goal.returns-in-OfStore
returns-in-OfStore c = rw c.in-OfStore.is c.put_words-in-OfStore.ensures

pub returns-in-OfLoad : goal.returns-in-OfLoad
returns-in-OfLoad c = rw c.in-OfLoad.is c.put_words-in-OfLoad.ensures

pub returns-in-OfWait : goal.returns-in-OfWait
returns-in-OfWait c = rw c.in-OfWait.is c.put_last_number.ensures
