use Rattle.std.proofs.Common.{◌≡◌, ◌⊎◌, ℕ, List, Bool, true, false, [], refl, ap, sym, subst, ◌∙◌, map, take, length}
use Rattle.std.specs.Prelude.{string_bytes}
use Rattle.vd_output.specs.Out.{good_lines, history_after}
use Rattle.vd_io.specs.Told.{Rose}
use Rattle.vd_top.specs.Executes.{RoseBy}
use Rattle.vd_top.specs.Written.{StopsBy, WritesBy}
use Rattle.blk_cache.specs.Cached.{Keeps, content_of, newest_alone, now}
use Rattle.blk_disk.specs.Moments.{Lie}
use Rattle.blk_dirty.specs.Dirty.{DirtyLines}
use Rattle.blk_cache.proofs.Images.{content_same}
use Rattle.vd_cached.specs.Ends.{IsFlushed, flushed_status, stop_of_cached}
use Rattle.vd_cached.proofs.Statuses.{complete_is, flushed_is, is_err, on_ok}
use Rattle.vd_cached.proofs.Settles.{present_is}
use Rattle.vd_cached.proofs.Fits.{is_addressed, is_whole}
use Rattle.vd_cached.proofs.Unread.{unread_written, unread_holds}
use Rattle.vd_cached.proofs.Over.{given_run, stop_is, image_of, run_laws, disk_holds}
use Rattle.vd_cached.proofs.top.cached_top.Goals as goal

pub returns-in-Err-Memory-clause-written : goal.returns-in-Err-Memory-clause-written
returns-in-Err-Memory-clause-written g c = λ sizes x text given has sectors image.
    unread_written x text c.unread-exit-in-Err-Memory.result.disk_failures c.unread-exit-in-Err-Memory.result.status c.unread-exit-in-Err-Memory.result.lines_done c.unread-exit-in-Err-Memory.ensures.status
    c.unread-exit-in-Err-Memory.ensures.lines_done c.unread-exit-in-Err-Memory.ensures.disk_failures (g.K.Sink.held c.args.sink.now)

pub returns-in-Err-Memory-clause-laws : goal.returns-in-Err-Memory-clause-laws
returns-in-Err-Memory-clause-laws g c = λ sizes x text n given has. (
  is_addressed (map string_bytes c.args.words.now.items) x sizes given.asked has,
  is_whole (map string_bytes c.args.words.now.items) x sizes given.asked has,
  run_laws x (history_after c.unread-exit-in-Err-Memory.result.disk_failures 1 [] (take n (good_lines text))),
)

pub returns-in-Err-Memory-clause-holds : goal.returns-in-Err-Memory-clause-holds
returns-in-Err-Memory-clause-holds g c = λ sizes x text given has image flushed.
    let back = c.in-Err-Memory.ensures.back in
    unread_holds x text c.unread-exit-in-Err-Memory.result.disk_failures c.unread-exit-in-Err-Memory.result.status c.unread-exit-in-Err-Memory.result.lines_done c.unread-exit-in-Err-Memory.ensures.status
    c.unread-exit-in-Err-Memory.ensures.lines_done c.unread-exit-in-Err-Memory.ensures.disk_failures _ _
    (image_of x _ (g.D.Disk.size c.args.disk) _ (content_of g.D.Disk.tells (g.D.Disk.present c.args.disk) (g.D.Disk.size c.args.disk)) (ap g.D.Disk.size back)
    (ap (λ d. content_of g.D.Disk.tells (g.D.Disk.present d) (g.D.Disk.size d)) back) image)

pub returns-clause-stopped : goal.returns-clause-stopped
returns-clause-stopped g c = λ sizes text given.
    let run = given_run (map string_bytes c.in-Ok.begun.0.items) (map string_bytes c.args.words.now.items) sizes (g.S.Source.left c.args.source.now) text c.in-Ok.ensures.sizes given in
    subst (λ s. StopsBy text s c.script_top-exit.result.line c.script_top-exit.result.lines_done (g.S.Source.left c.script_top-exit.new.source))
    (sym (stop_is c.is_ok-flushed.result c.script_top-exit.result.status c.last_status-status.result c.last_status-status.ensures (c.script_top-exit.ensures.known sizes run.asked)))
    (c.script_top-exit.ensures.stopped sizes text run)

pub returns-clause-written : goal.returns-clause-written
returns-clause-written g c = λ sizes x text given has sectors image.
    let run = given_run (map string_bytes c.in-Ok.begun.0.items) (map string_bytes c.args.words.now.items) sizes (g.S.Source.left c.args.source.now) text c.in-Ok.ensures.sizes given in
    let size = ap g.D.Disk.size c.in-Ok.ensures.disk in
    subst (λ s. WritesBy x text c.script_top-exit.result.disk_failures s c.script_top-exit.result.lines_done (g.K.Sink.held c.args.sink.now) (g.K.Sink.held c.script_top-exit.new.sink))
    (sym (stop_is c.is_ok-flushed.result c.script_top-exit.result.status c.last_status-status.result c.last_status-status.ensures (c.script_top-exit.ensures.known sizes run.asked)))
    (c.script_top-exit.ensures.written sizes x text run has (sectors ∙ sym size) (λ e. image_of x _ _ _ _ size c.in-Ok.ensures.content (image e)))

pub returns-clause-laws : goal.returns-clause-laws
returns-clause-laws g c = λ sizes x text n given has.
    let run = given_run (map string_bytes c.in-Ok.begun.0.items) (map string_bytes c.args.words.now.items) sizes (g.S.Source.left c.args.source.now) text c.in-Ok.ensures.sizes given in
    c.script_top-exit.ensures.laws sizes x text n run has

pub returns-clause-failures : goal.returns-clause-failures
returns-clause-failures g c = λ sizes text given.
    let run = given_run (map string_bytes c.in-Ok.begun.0.items) (map string_bytes c.args.words.now.items) sizes (g.S.Source.left c.args.source.now) text c.in-Ok.ensures.sizes given in
    c.script_top-exit.ensures.failures sizes text run

pub returns-clause-holds : goal.returns-clause-holds
returns-clause-holds g c = λ sizes x text given has image certain.
    let run = given_run (map string_bytes c.in-Ok.begun.0.items) (map string_bytes c.args.words.now.items) sizes (g.S.Source.left c.args.source.now) text c.in-Ok.ensures.sizes given in
    let size = ap g.D.Disk.size c.in-Ok.ensures.disk in
    let counted = subst (λ d. RoseBy (length c.script_top-exit.result.disk_failures) (g.D.Disk.faults d) (g.D.Disk.faults c.script_top-exit.new.disk.disk)) c.in-Ok.ensures.disk c.script_top-exit.ensures.counted in
    let there = c.into_disk-disk.ensures in
    let sure = subst (λ s. IsFlushed s c.script_top-exit.result.disk_failures (g.D.Disk.faults c.args.disk) (g.D.Disk.faults c.flush.new.self.disk)) c.last_status-status.ensures
    (subst (λ d. IsFlushed c.last_status-status.result c.script_top-exit.result.disk_failures (g.D.Disk.faults c.args.disk) (g.D.Disk.faults d)) there certain) in
    let flushed = flushed_is c.is_ok-flushed.result c.script_top-exit.result.status (g.D.Disk.faults c.args.disk) (g.D.Disk.faults c.script_top-exit.new.disk.disk) (g.D.Disk.faults c.flush.new.self.disk)
    c.script_top-exit.result.disk_failures counted (λ e. c.flush.ensures.cause.failed (is_err c.flush.result (sym c.is_ok-flushed.ensures.value ∙ e))) sure in
    let ok = sym c.is_ok-flushed.ensures.value ∙ flushed in
    disk_holds x text c.script_top-exit.result.disk_failures _ _ c.script_top-exit.result.lines_done (g.D.Disk.size c.script_top-exit.new.disk.disk) (g.D.Disk.size c.into_disk-disk.result) _ _ _
    (stop_is c.is_ok-flushed.result c.script_top-exit.result.status c.last_status-status.result c.last_status-status.ensures (c.script_top-exit.ensures.known sizes run.asked))
    (ap g.D.Disk.size there ∙ c.flush.ensures.size)
    (content_same g.D.Disk.tells (g.D.Disk.present c.into_disk-disk.result) (now c.script_top-exit.new.disk.dirty (g.D.Disk.present c.script_top-exit.new.disk.disk)) _ _ (ap g.D.Disk.size there ∙ c.flush.ensures.size)
    (λ told s. ap (λ d. g.D.Disk.present d s) there
    ∙ present_is (g.D.Disk.present c.flush.new.self.disk) (now c.script_top-exit.new.disk.dirty (g.D.Disk.present c.script_top-exit.new.disk.disk)) _ (g.D.Disk.may_leave c.flush.new.self.disk)
    (on_ok c.flush.result ok (c.flush.ensures.settled told)) (on_ok c.flush.result ok (c.flush.ensures.single told)) s))
    (c.script_top-exit.ensures.image sizes x text run has (image_of x _ _ _ _ size c.in-Ok.ensures.content image))

pub returns-clause-untouched : goal.returns-clause-untouched
returns-clause-untouched g c = λ sizes text given none.
    let run = given_run (map string_bytes c.in-Ok.begun.0.items) (map string_bytes c.args.words.now.items) sizes (g.S.Source.left c.args.source.now) text c.in-Ok.ensures.sizes given in
    let same = c.script_top-exit.ensures.untouched sizes text run none in
    let one = same.0 in
    let disk : c.script_top-exit.new.disk.disk ≡ c.in-Ok.begun.1.disk = rw one refl in
    let dirty : c.script_top-exit.new.disk.dirty ≡ c.in-Ok.begun.1.dirty = rw one refl in (
      same.1,
      λ told.
          let kept = subst (λ (d : DirtyLines). Keeps (newest_alone (g.D.Disk.present c.args.disk)) (now d (g.D.Disk.present c.script_top-exit.new.disk.disk)) (g.D.Disk.may_leave c.script_top-exit.new.disk.disk)) (sym dirty)
          (subst (λ d. Keeps (newest_alone (g.D.Disk.present c.args.disk)) (now c.in-Ok.begun.1.dirty (g.D.Disk.present d)) (g.D.Disk.may_leave d)) (sym disk) (c.in-Ok.ensures.kept told)) in
          let crash = c.flush.ensures.crash told (newest_alone (g.D.Disk.present c.args.disk)) kept in
          let back = c.into_disk-disk.ensures in (
            subst (λ d. g.D.Disk.through (newest_alone (g.D.Disk.present c.args.disk)) c.args.disk d) (sym back)
                (subst (λ d. g.D.Disk.through (newest_alone (g.D.Disk.present c.args.disk)) d c.flush.new.self.disk) (disk ∙ c.in-Ok.ensures.disk) crash.0),
            subst (λ d. Lie (newest_alone (g.D.Disk.present c.args.disk)) (g.D.Disk.may_leave d)) (sym back) crash.1.crash,
          ),
    )

pub returns-clause-complete : goal.returns-clause-complete
returns-clause-complete g c = λ sizes text given whole source sink.
    let run = given_run (map string_bytes c.in-Ok.begun.0.items) (map string_bytes c.args.words.now.items) sizes (g.S.Source.left c.args.source.now) text c.in-Ok.ensures.sizes given in
    subst (λ s. (s ≡ 0) ⊎ (s ≡ 9) ⊎ (s ≡ 5)) (sym c.last_status-status.ensures)
    (complete_is c.is_ok-flushed.result c.script_top-exit.result.status (c.script_top-exit.ensures.complete sizes text run whole source sink))
