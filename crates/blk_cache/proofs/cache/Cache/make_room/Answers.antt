use Rattle.std.proofs.Common.{◌≡◌, ◌≤◌, ℕ, ◌+◌, min, sym, ap, ◌∙◌, arith, rules}
use Rattle.std.proofs.lemmas.Grind.{common_steps}
use Rattle.blk_dirty.specs.Dirty.{bytes_at, clean}
use Rattle.blk_dirty.proofs.Marks.{clean_small}
use Rattle.blk_cache.proofs.cache.Cache.make_room.Goals as goal

pub returns-in_ok-write_back-clause-ok : goal.returns-in_ok-write_back-clause-ok
returns-in_ok-write_back-clause-ok g c =
    let same : c.write_back.new.self.dirty.room ≡ c.args.self.now.dirty.room =
    c.write_back.new.self.room ∙ ap (λ (n : ℕ). min n (c.write_back.new.self.lines + 32768)) c.write_back.ensures.size
    ∙ ap (λ (n : ℕ). min (g.D.Disk.size c.args.self.now.disk) (n + 32768)) c.write_back.ensures.lines ∙ sym c.args.self.now.room in
    let fits : c.args.count ≤ c.args.self.now.dirty.room = first_of (search rules, grind (arith, common_steps)) in
    let few : clean (bytes_at c.write_back.new.self.dirty) c.args.sector c.args.count ≤ c.args.count = clean_small (bytes_at c.write_back.new.self.dirty) c.args.sector c.args.count in
    let most = c.in_ok-write_back.ensures.ok in
    omega arith
