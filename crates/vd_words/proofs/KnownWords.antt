-- Each first word: it is known, its sum tells it, and its length is within the bounds.
use Rattle.std.proofs.Common.{◌≡◌, Bool, true, ◌&&◌, leb, List, ℕ, length, Some, refl}
use Rattle.vd_model.specs.declared.word.Keyword.{Keyword}
use Rattle.vd_model.specs.declared.word.Keyword.TheVariants as first
use Rattle.vd_model.specs.declared.word.ControlWord.{ControlWord}
use Rattle.vd_model.specs.declared.word.ControlWord.TheVariants as control
use Rattle.vd_model.specs.declared.word.NodeWord.{NodeWord}
use Rattle.vd_model.specs.declared.word.NodeWord.TheVariants as node
use Rattle.vd_model.specs.declared.word.AreaWord.{AreaWord}
use Rattle.vd_model.specs.declared.word.AreaWord.TheVariants as area
use Rattle.vd_model.specs.declared.word.BusWord.{BusWord}
use Rattle.vd_model.specs.declared.word.BusWord.TheVariants as bus
use Rattle.vd_model.specs.declared.word.DriverWord.{DriverWord}
use Rattle.vd_model.specs.declared.word.DriverWord.TheVariants as driver
use Rattle.vd_model.specs.declared.word.QueueWord.{QueueWord}
use Rattle.vd_model.specs.declared.word.QueueWord.TheVariants as queue
use Rattle.vd_model.specs.ControlLines.{control_word_text}
use Rattle.vd_model.specs.NodeLines.{node_word_text}
use Rattle.vd_model.specs.AreaLines.{area_word_text}
use Rattle.vd_model.specs.BusLines.{bus_word_text}
use Rattle.vd_model.specs.DriverLines.{driver_word_text}
use Rattle.vd_model.specs.QueueLines.{queue_word_text}
use Rattle.vd_model.specs.Reading.{keyword}
use Rattle.vd_words.specs.Keywords.{keyword_text, candidate}

-- a first word has 3 to 12 letters
abbrev pub has_length : List ℕ → Bool
has_length w = leb 3 (length w) && leb (length w) 12

pub record IsFirstWord (k : Keyword) : Type 0 where
  pub known : keyword (keyword_text k) ≡ Some k
  pub told : candidate (keyword_text k) ≡ k
  pub length_fits : has_length (keyword_text k) ≡ true

word : {k : Keyword} → keyword (keyword_text k) ≡ Some k → candidate (keyword_text k) ≡ k → has_length (keyword_text k) ≡ true → IsFirstWord k
word a b c = record { known = a; told = b; length_fits = c }

control_known : (w : ControlWord) → IsFirstWord (first.Control w)
unfolding control_word_text node_word_text area_word_text bus_word_text driver_word_text queue_word_text
control_known control.Version = word refl refl refl
control_known control.SetVersion = word refl refl refl
control_known control.Create = word refl refl refl
control_known control.Destroy = word refl refl refl
control_known control.Dev = word refl refl refl
control_known control.Control = word refl refl refl
control_known control.Tick = word refl refl refl
control_known control.Image = word refl refl refl

node_known : (w : NodeWord) → IsFirstWord (first.Node w)
unfolding control_word_text node_word_text area_word_text bus_word_text driver_word_text queue_word_text
node_known node.Open = word refl refl refl
node_known node.Close = word refl refl refl
node_known node.Features = word refl refl refl
node_known node.SetConfig = word refl refl refl
node_known node.ConfigIrq = word refl refl refl
node_known node.VqSetup = word refl refl refl
node_known node.VqInfo = word refl refl refl
node_known node.KickFd = word refl refl refl
node_known node.Kicks = word refl refl refl
node_known node.Irq = word refl refl refl
node_known node.Recv = word refl refl refl
node_known node.Answer = word refl refl refl
node_known node.Read = word refl refl refl
node_known node.Write = word refl refl refl
node_known node.Ioctl = word refl refl refl

area_known : (w : AreaWord) → IsFirstWord (first.Area w)
unfolding control_word_text node_word_text area_word_text bus_word_text driver_word_text queue_word_text
area_known area.Lookup = word refl refl refl
area_known area.IovaInfo = word refl refl refl
area_known area.Area = word refl refl refl
area_known area.AreaPut = word refl refl refl
area_known area.AreaGet = word refl refl refl
area_known area.RegUmem = word refl refl refl
area_known area.DeregUmem = word refl refl refl
area_known area.Load = word refl refl refl
area_known area.Store = word refl refl refl

bus_known : (w : BusWord) → IsFirstWord (first.Bus w)
unfolding control_word_text node_word_text area_word_text bus_word_text driver_word_text queue_word_text
bus_known bus.Attach = word refl refl refl
bus_known bus.Detach = word refl refl refl
bus_known bus.Offered = word refl refl refl
bus_known bus.SetFeatures = word refl refl refl
bus_known bus.GetStatus = word refl refl refl
bus_known bus.SetStatus = word refl refl refl
bus_known bus.Reset = word refl refl refl
bus_known bus.VqNum = word refl refl refl
bus_known bus.VqAddr = word refl refl refl
bus_known bus.VqReady = word refl refl refl
bus_known bus.SetVqState = word refl refl refl
bus_known bus.GetVqState = word refl refl refl
bus_known bus.Kick = word refl refl refl
bus_known bus.Callback = word refl refl refl
bus_known bus.Irqs = word refl refl refl
bus_known bus.GetConfig = word refl refl refl
bus_known bus.Timeout = word refl refl refl
bus_known bus.Take = word refl refl refl

driver_known : (w : DriverWord) → IsFirstWord (first.Driver w)
unfolding control_word_text node_word_text area_word_text bus_word_text driver_word_text queue_word_text
driver_known driver.Buf = word refl refl refl
driver_known driver.Zeros = word refl refl refl
driver_known driver.Free = word refl refl refl
driver_known driver.Poke = word refl refl refl
driver_known driver.Peek = word refl refl refl
driver_known driver.Map = word refl refl refl
driver_known driver.Unmap = word refl refl refl
driver_known driver.SyncDev = word refl refl refl
driver_known driver.SyncCpu = word refl refl refl
driver_known driver.Coherent = word refl refl refl
driver_known driver.FreeCoherent = word refl refl refl
driver_known driver.Cput = word refl refl refl
driver_known driver.Cget = word refl refl refl

queue_known : (w : QueueWord) → IsFirstWord (first.Queue w)
unfolding control_word_text node_word_text area_word_text bus_word_text driver_word_text queue_word_text
queue_known queue.Walk = word refl refl refl
queue_known queue.Fetch = word refl refl refl
queue_known queue.Execute = word refl refl refl
queue_known queue.Finish = word refl refl refl
queue_known queue.Ring = word refl refl refl
queue_known queue.Unring = word refl refl refl
queue_known queue.Add = word refl refl refl
queue_known queue.Publish = word refl refl refl
queue_known queue.Submit = word refl refl refl
queue_known queue.Poll = word refl refl refl

pub is_first_word : (k : Keyword) → IsFirstWord k
is_first_word (first.Control w) = control_known w
is_first_word (first.Node w) = node_known w
is_first_word (first.Area w) = area_known w
is_first_word (first.Bus w) = bus_known w
is_first_word (first.Driver w) = driver_known w
is_first_word (first.Queue w) = queue_known w
