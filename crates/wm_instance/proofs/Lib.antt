mod Laid
mod FirstStore
