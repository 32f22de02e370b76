-- What a call that sends a message and waits for its end answers.
use Rattle.vd_num.specs.declared.errno.Errno.TheVariants.{Io, Nospc}
use Rattle.vd_model.specs.declared.message.Body.{Body}
use Rattle.sh_parts.specs.declared.entry.MessageStep.TheVariants.{Send}
use Rattle.sh_parts.specs.declared.entry.MessageAnswer.TheVariants as tells
use Rattle.sh_parts.specs.Legal.{Numbers}
use Rattle.sh_parts.specs.Journals.{NoteView}
use Rattle.sh_device.specs.declared.messages.SendAnswer.{SendAnswer}
use Rattle.sh_device.specs.declared.messages.SendAnswer.TheVariants.{Taken, Broken, Ids}
use Rattle.sh_device.specs.Calls.{IsMessageNote, IsExchange}

-- the noted entry takes the end of the message, or is its refused send
abbrev pub IsSent : Numbers → NoteView → Body → SendAnswer → Type 0
IsSent x note body (Taken ended) = IsExchange x note body (tells.Taken ended)
IsSent x note body Broken = IsMessageNote x note (Send body) (tells.Err Io)
IsSent x note body Ids = IsMessageNote x note (Send body) (tells.Err Nospc)
